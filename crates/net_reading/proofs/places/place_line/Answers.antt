use Rattle.std.proofs.Common.{◌≡◌, map, length, refl, ap, ◌∙◌, arith, ltb-false, ltb-true}
use Rattle.lines.proofs.FirstBytes.{opened, first}
use Rattle.std.proofs.lemmas.List.{length-map}
use Rattle.net.specs.Views.{cell_of}
use Rattle.net_reading.proofs.CellBytes.{no_start, no_end}
use Rattle.net_reading.proofs.places.place_line.Goals as goal
use Rattle.net_reading.proofs.places.place_line.Goals.{in_default-2-via-then-branch-lt1-2, in_default-2-via-else-branch-lt1-2+in_default-1}

pub returns-in_err-start : goal.returns-in_err-start
returns-in_err-start g c =
    rw c.from_residual-in_err-start.ensures
    record {
      reads_a_places_line = no_start c.in_ok-literal.ensures.gives_what_follows_the_key c.in_err-start.ensures.reads_a_digit_of_the_wheel;
      as_many_cells_as_before = refl;
    }

pub returns-in_default-2 : goal.returns-in_default-2
returns-in_default-2 g c =
    let left = c.in_ok-literal.field-0.now in
    let cells = c.read_cells.new.cells in
    let count : length (map (cell_of g.W.Wheel) cells) ≡ _ = length-map cells (cell_of g.W.Wheel) ∙ c.in_ok-read_cells.ensures.as_many_cells_as_before in
    record {
      reads_a_places_line =
          no_end c.in_ok-literal.ensures.gives_what_follows_the_key (opened left _ (omega (arith, ltb-false)) refl) (map (cell_of g.W.Wheel) cells) c.in_ok-read_cells.field-0.now c.in_ok-read_cells.ensures.reads_every_cell count
          (λ more e.
          elim c.in_default-2.branch [
            | in_default-2-via-then-branch-lt1-2 w ↦ omega (arith, ltb-true, ap length e)
            | in_default-2-via-else-branch-lt1-2+in_default-1 w ↦ omega (arith, first e)
          ]);
      as_many_cells_as_before = c.in_ok-read_cells.ensures.as_many_cells_as_before;
    }
