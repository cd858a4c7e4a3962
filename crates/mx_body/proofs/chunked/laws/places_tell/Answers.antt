use Rattle.mx_body.proofs.ChunkedLemmas.{open_is_undecided, bad_never, ends_in_large}
use Rattle.mx_body.proofs.ChunkedLawProofs.{done_is_whole, whole_is_done}
use Rattle.mx_body.proofs.chunked.laws.places_tell.Goals as goal

pub returns-clause-done : goal.returns-clause-done
returns-clause-done c = done_is_whole

pub returns-clause-whole : goal.returns-clause-whole
returns-clause-whole c = whole_is_done

pub returns-clause-open : goal.returns-clause-open
returns-clause-open c = open_is_undecided

pub returns-clause-bad : goal.returns-clause-bad
returns-clause-bad c = bad_never

pub returns-clause-too_large : goal.returns-clause-too_large
returns-clause-too_large c = ends_in_large
