use Rattle.std.proofs.Common.{◌-◌, length, get_or, sym, ap, ◌∙◌, ⊎_elim, arith, ltb-false, ltb-true}
use Rattle.lines.proofs.Decimals.{first_digit, goes_on, begun, read_on}
use Rattle.lines.proofs.FirstBytes.{first}
use Rattle.lines.proofs.numbers.any_number.Goals as goal
use Rattle.lines.proofs.numbers.any_number.Goals.{in_default-rest-via-then-rest-lt1, in_default-rest-via-in-len1-up-rest+then-value-gt0+else-value-lt100, in_default-rest-via-in-len1-up-rest+else-value-gt0}

pub returns-in_err-value : goal.returns-in_err-value
returns-in_err-value c =
    rw c.from_residual.ensures
    (record {
      reads_a_number = λ v rest h.
          let is = (first_digit v c.args.bytes.now _ h.small h.opens).1 in
          c.in_err-value.ensures.reads_a_digit (get_or c.args.bytes.now 0 0 - 48) (omega arith) (omega arith);
    })

pub loop-rest-init : goal.loop-rest-init
loop-rest-init c =
    let digit = c.in_ok-value.ensures.reads_a_digit in (
      omega arith,
      begun c.args.bytes.now c.in_ok-value.value (omega (arith, ltb-false)) digit.1 digit.0,
    )

pub returns-in_err-value-in-len1-up-rest : goal.returns-in_err-value-in-len1-up-rest
returns-in_err-value-in-len1-up-rest c =
    rw c.from_residual-in_err-value-in-len1-up-rest.ensures
    (record {
      reads_a_number = λ v rest h.
          let next = goes_on c.loop-rest.value v c.loop-rest.rest.now rest c.loop-rest.invariant.0 h.small (sym c.loop-rest.invariant.1 ∙ h.opens) in
          ⊎_elim
          (λ ended. omega (arith, first ended.1))
          (λ more. c.in_err-value-in-len1-up-rest.ensures.reads_a_digit (get_or c.loop-rest.rest.now 0 0 - 48) (omega arith) (omega arith))
          next;
    })

pub loop-rest-preserved : goal.loop-rest-preserved
loop-rest-preserved c =
    let digit = c.in_ok-value-in-len1-up-rest.ensures.reads_a_digit in (
      omega arith,
      read_on c.args.bytes.now c.loop-rest.rest.now c.loop-rest.value c.in_ok-value-in-len1-up-rest.field-0 c.loop-rest.invariant.1 (omega arith) (omega arith) digit.0 (omega (arith, ltb-false)) digit.1,
    )

pub returns-in_default-rest : goal.returns-in_default-rest
returns-in_default-rest c =
    record {
      reads_a_number = λ v rest h.
          let next = goes_on c.loop-rest.value v c.loop-rest.rest.now rest c.loop-rest.invariant.0 h.small (sym c.loop-rest.invariant.1 ∙ h.opens) in
          elim c.in_default-rest.branch [
            | in_default-rest-via-then-rest-lt1 w ↦ ⊎_elim (λ ended. omega (arith, ltb-true, ap length ended.1)) (λ more. omega (arith, ltb-true, more.some)) next
            | in_default-rest-via-in-len1-up-rest+then-value-gt0+else-value-lt100 w ↦ ⊎_elim (λ ended. omega (arith, first ended.1)) (λ more. omega arith) next
            | in_default-rest-via-in-len1-up-rest+else-value-gt0 w ↦ ⊎_elim (λ ended. omega (arith, first ended.1)) (λ more. omega arith) next
          ];
    }
