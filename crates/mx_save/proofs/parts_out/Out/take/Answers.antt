use Rattle.std.proofs.Common.{◌≡◌, ◌≢◌, ℕ, List, ◌<◌, ◌∙◌, length, map, get_or, ap, sym, subst}
use Rattle.mx_save.specs.Made.{without}
use Rattle.mx_save.specs.Out.{OutValue}
use Rattle.mx_save.proofs.Outs.{numbers_rest, removed_without}
use Rattle.mx_save.proofs.parts_out.Out.take.Goals as goal

pub returns-clause-out : goal.returns-clause-out
returns-clause-out c =
    let inside = c.self.inside in
    let parts = inside.parts.items in
    let numbers = map (λ part. part.number) parts in
    let number = c.args.number in
    let found = c.place_of-place.ensures in
    let place = c.place_of-place.result in
    let same = sym (ap (λ (o : OutValue). o.numbers) c.self.view_is) in
    let rest : map (λ part. part.number) c.remove.new.self.items ≡ without number numbers =
    ap (map (λ part. part.number)) c.in-Some.ensures.items ∙ numbers_rest parts place
    ∙ removed_without number numbers place (subst (λ ns. place < length ns) same found.within) (subst (λ ns. get_or ns place 0 ≡ number) same found.there)
    (subst (λ ns. (k : ℕ) → k < place → get_or ns k 0 ≢ number) same found.first) in
    let view : OutValue → OutValue = λ o. record { process = o.process; numbers = without number o.numbers } in
    let with_numbers : List ℕ → OutValue = λ ns. record { process = inside.process; numbers = ns } in
    ap with_numbers rest ∙ ap view c.self.view_is
