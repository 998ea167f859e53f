use Rattle.std.proofs.Common.{◌+◌, ◌%◌, [], ◌∷◌, sym, subst, arith}
use Rattle.std.proofs.lemmas.Fmt.{decimal_step}
use Rattle.net_writing.specs.Putting.{Puts, Room}
use Rattle.net_writing.proofs.Decimals.{decimal_length_step, last_digit}
use Rattle.net_writing.proofs.Puts.{puts_then, room_then}
use Rattle.net_writing.proofs.cursors.Cursor.+put_number.Goals as goal
use Rattle.net_writing.proofs.cursors.Cursor.+put_number.Goals.{then-n-ge10, else-n-ge10}

pub put_number-requires : goal.put_number-requires
put_number-requires t c = (omega (arith, c.decreases), record { fits = omega (arith, decimal_length_step c.args.n (omega arith) c.ranges.n.fits) })

pub put-requires : goal.put-requires
put-requires t c = elim c.if-n-ge10.branch [
  | then-n-ge10 w ↦ record {
    room = subst (λ cursor. Room cursor ((48 + c.args.n % 10) ∷ [])) (sym w.self-is)
        (room_then w.put_number.ensures.puts_the_digits (subst (Room c.args.self.now) (decimal_step c.args.n (omega arith) c.ranges.n.fits) c.requires.room));
  }
  | else-n-ge10 w ↦ record {
    room = subst (λ cursor. Room cursor ((48 + c.args.n % 10) ∷ [])) (sym w.self-is)
        (subst (Room c.args.self.now) (last_digit c.args.n (omega arith)) c.requires.room);
  }
]

pub returns : goal.returns
returns t c = elim c.if-n-ge10.branch [
  | then-n-ge10 w ↦ record {
    puts_the_digits = subst (λ digits. Puts c.args.self.now digits c.put.new.self) (sym (decimal_step c.args.n (omega arith) c.ranges.n.fits))
        (puts_then w.put_number.ensures.puts_the_digits (subst (λ cursor. Puts cursor ((48 + c.args.n % 10) ∷ []) c.put.new.self) w.self-is c.put.ensures.puts_the_bytes));
  }
  | else-n-ge10 w ↦ record {
    puts_the_digits = subst (λ digits. Puts c.args.self.now digits c.put.new.self) (sym (last_digit c.args.n (omega arith)))
        (subst (λ cursor. Puts cursor ((48 + c.args.n % 10) ∷ []) c.put.new.self) w.self-is c.put.ensures.puts_the_bytes);
  }
]
