-- What a worker has claimed.
use Rattle.std.proofs.Common.{◌≡◌, List, [], ◌∷◌, ◌++◌}
use Rattle.std.specs.List.{All}
use Rattle.std.proofs.lemmas.List.Elements.{All-push}
use Rattle.logbook.specs.Pages.{Book}
use Rattle.mx_types.specs.Origin.{no_request}
use Rattle.mx_lock.specs.Ties.{TiedClaimed}
use Rattle.mx_multi_tests_base.specs.Hands.{IsOf}

pub kept_more : (b : Book) (xs : List TiedClaimed) (c : TiedClaimed) → All (IsOf b) xs → c.of ≡ b → c.origin ≡ no_request → All (IsOf b) (xs ++ c ∷ [])
kept_more b xs c all of origin = All-push (IsOf b) xs c all (of, origin)
