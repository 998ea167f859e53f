-- A case text tells its wheel, its names and its runs. Assumes nothing.
use Rattle.std.proofs.Common.{[], map}
use Rattle.std.proofs.ByRecursion.{All-from_get_or}
use Rattle.std.proofs.lemmas.List.{same_from_push}
use Rattle.texts.specs.CaseText.{OneCase, case_end, run_line}
use Rattle.texts.specs.Names.{NamesFormed}
use Rattle.texts.proofs.CaseWhole.{case_made, case_runs_formed}
use Rattle.texts.proofs.Made.{same_from_map, same_made}
use Rattle.texts.proofs.Runs.{same_run}

pub one_case : OneCase
one_case k k' names names' runs runs' of of' e =
    let parts = same_made (case_made k names runs of) (case_made k' names' runs' of') e in
    let lines_are = (same_from_push (map run_line runs) (map run_line runs') case_end case_end parts.2).0 in
    let formed = All-from_get_or NamesFormed runs [] (case_runs_formed k names runs of) in
    let formed' = All-from_get_or NamesFormed runs' [] (case_runs_formed k' names' runs' of') in
    (parts.0, parts.1, same_from_map run_line NamesFormed same_run runs runs' formed formed' lines_are)
