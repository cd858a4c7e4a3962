-- What a folder notes of its steps.
use Rattle.std.specs.Prelude.{List, [], ◌∷◌}
use Rattle.mx_folder.specs.declared.steps.Step.{Step}
use Rattle.mx_folder.specs.declared.log.Entry.{Entry}
use Rattle.mx_folder.specs.declared.log.Entry.TheVariants as entry
use Rattle.mx_folder.specs.Parts.{told}

abbrev pub steps_of : Entry → List Step
steps_of (entry.Step step) = step ∷ []
steps_of (entry.Refused name refused) = told name refused
