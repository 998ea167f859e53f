use Rattle.std.proofs.Common.{codes, ◌≡◌, [], ◌∷◌, ◌++◌, sym, ◌∙◌, subst}
use Rattle.lines.proofs.NumberLines.{between}
use Rattle.lines.proofs.Refused.{refused, allowed}
use Rattle.std.proofs.lemmas.Result.{err_from_is_err_and}
use Rattle.std.proofs.lemmas.Option.{MatchOption-at_none, MatchOption-at_some}
use Rattle.lines.specs.Opening.{NumberLine}
use Rattle.texts.specs.Forms.{wheel_line}
use Rattle.texts.specs.Lines.{line_feed}
use Rattle.texts.specs.NetText.{net_opening}
use Rattle.texts.proofs.Forms.{Done}
use Rattle.texts.proofs.NetStages.{fault_opening, fault_wheel_line, fault_other_wheel, fault_styles_line}
use Rattle.net_reading.proofs.FirstFaults.{form_told, wheel_number, no_wheel_line, no_styles_line, opening_done, wheel_done}
use Rattle.net_reading.proofs.heads.read_head.Goals as goal
use Rattle.net_reading.proofs.heads.read_head.Goals.{In_ok-rest, In_ok-named}

-- the first line has been read
opening_read : (c : In_ok-rest) → c.args.text.now ≡ net_opening ++ (line_feed ∷ c.in_ok-rest.rest.now)
opening_read c = MatchOption-at_some _ _ _ (allowed _ _ _ c.in_ok-rest.ensures.value) c.literal.ensures.gives_what_follows_the_key

-- and the second
wheel_read : (c : In_ok-named) → NumberLine (codes "wheel=") 2 9 c.in_ok-rest.rest.now c.in_ok-named.named c.in_ok-named.rest.now
wheel_read c = MatchOption-at_some _ _ _ (allowed _ _ _ c.in_ok-named.ensures.value) (between (codes "wheel=") _ _ c.new.ensures.start c.new.ensures.end c.keyed_number.ensures.reads_a_number_after_the_key)

pub returns-in_err-rest : goal.returns-in_err-rest
returns-in_err-rest c =
    let p = err_from_is_err_and c.from_residual.result c.from_residual.ensures.1 in
    let none = refused _ _ _ c.in_err-rest.ensures.value in
    rw (p.1, p.2)
    record {
      reads_three_lines_or_tells_the_first_fault =
          form_told _ _ _ 1 (none.1 ∙ c.form.ensures.is_a_fault_of_form) (fault_opening c.if-text-gt-TEXT_LIMIT.false c.requires.a_wheel_of_a_text (λ after. MatchOption-at_none _ _ none.0 c.literal.ensures.gives_what_follows_the_key after));
    }

pub returns-in_err-named : goal.returns-in_err-named
returns-in_err-named c =
    let p = err_from_is_err_and c.from_residual-in_err-named.result c.from_residual-in_err-named.ensures.1 in
    let none = refused _ _ _ c.in_err-named.ensures.value in
    let rest = c.in_ok-rest.rest.now in
    let opened = opening_read (goal.at.returns-in_err-named c).In_ok-rest in
    rw (p.1, p.2)
    record {
      reads_three_lines_or_tells_the_first_fault =
          form_told _ _ _ 2 (none.1 ∙ c.form-2.ensures.is_a_fault_of_form) (fault_wheel_line c.if-text-gt-TEXT_LIMIT.false rest c.requires.a_wheel_of_a_text (opening_done _ rest opened) (no_wheel_line (MatchOption-at_none _ _ none.0 (between (codes "wheel=") _ _ c.new.ensures.start c.new.ensures.end c.keyed_number.ensures.reads_a_number_after_the_key))));
    }

pub returns-then-named-from : goal.returns-then-named-from
returns-then-named-from c =
    let rest = c.in_ok-rest.rest.now in
    let opened = opening_read (goal.at.returns-then-named-from c).In_ok-rest in
    let named = wheel_read (goal.at.returns-then-named-from c).In_ok-named in
    record {
      reads_three_lines_or_tells_the_first_fault =
          fault_other_wheel c.if-text-gt-TEXT_LIMIT.false c.in_ok-named.named c.in_ok-named.rest.now c.requires.a_wheel_of_a_text (wheel_done _ rest _ _ opened named) (wheel_number named) (λ same. c.if-named-from.true (same ∙ sym c.from.ensures));
    }

pub returns-in_err-styles : goal.returns-in_err-styles
returns-in_err-styles c =
    let p = err_from_is_err_and c.from_residual-in_err-styles.result c.from_residual-in_err-styles.ensures.1 in
    let none = refused _ _ _ c.in_err-styles.ensures.value in
    let rest = c.in_ok-rest.rest.now in
    let opened = opening_read (goal.at.returns-in_err-styles c).In_ok-rest in
    let named = wheel_read (goal.at.returns-in_err-styles c).In_ok-named in
    let same : c.in_ok-named.named ≡ c.args.wheel = c.if-named-from.false ∙ c.from.ensures in
    rw (p.1, p.2)
    record {
      reads_three_lines_or_tells_the_first_fault =
          form_told _ _ _ 3 (none.1 ∙ c.form-3.ensures.is_a_fault_of_form) (fault_styles_line c.if-text-gt-TEXT_LIMIT.false c.in_ok-named.rest.now c.requires.a_wheel_of_a_text (subst (λ w. Done c.args.text.now (_ ∷ wheel_line w ∷ []) c.in_ok-named.rest.now) same (wheel_done _ rest _ _ opened named)) (no_styles_line (MatchOption-at_none _ _ none.0 (between (codes "styles=") _ _ c.new-2.ensures.start c.new-2.ensures.end c.keyed_number-2.ensures.reads_a_number_after_the_key))));
    }
