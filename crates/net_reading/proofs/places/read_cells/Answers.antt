use Rattle.std.proofs.Common.{◌≡◌, map, length, take, ◌∙◌, arith}
use Rattle.std.proofs.lemmas.List.{length-set, length-map, length-take-le}
use Rattle.net.specs.Views.{cell_of}
use Rattle.net_reading.proofs.CellBytes.{no_cells}
use Rattle.net_reading.proofs.places.read_cells.Goals as goal

pub returns-in_err-read : goal.returns-in_err-read
returns-in_err-read g c =
    let items = c.loop-slot.cells in
    let style = c.loop-slot.slot-index in
    let read = map (cell_of g.W.Wheel) (take style items) in
    let count : length read ≡ style = length-map (take style items) (cell_of g.W.Wheel) ∙ length-take-le style items (omega (arith, c.loop-slot.auto.cells)) in
    rw c.from_residual.ensures
    record {
      reads_every_cell = no_cells g.W.Wheel.K _ read c.args.bytes.now c.loop-slot.rest.now (omega (arith, count)) c.loop-slot.invariant c.in_err-read.ensures.reads_a_cell_of_the_wheel;
      as_many_cells_as_before = length-set items style _ ∙ c.loop-slot.auto.cells;
    }
