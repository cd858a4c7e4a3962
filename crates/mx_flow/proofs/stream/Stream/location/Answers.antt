use Rattle.std.proofs.Common.{List, ℕ, length, sym, ap, subst, ◌∙◌, ◌≡◌}
use Rattle.std.specs.Prelude.{Option}
use Rattle.mx_body.specs.Decision.{HasLocation, TellsLocation, IsPlaceIn, bytes_at}
use Rattle.mx_body.specs.Progress.{place_at}
use Rattle.mx_body.specs.declared.part.Part.{Part}
use Rattle.mx_flow.proofs.StageProofs.{has_location, tells_location, location_within}
use Rattle.mx_flow.proofs.stream.Stream.location.Goals as goal

pub returns-in-Some-clause-place : goal.returns-in-Some-clause-place
returns-in-Some-clause-place c =
    let kept = c.in-Some.kept.now in
    let at : c.place_of.result ≡ place_at kept.head (length kept.bytes.items) = c.place_of.ensures ∙ ap (λ (t : List ℕ). place_at kept.head (length t)) c.as_slice-heads.ensures.value in
    subst (λ (p : Option Part). HasLocation c.args.self.now.wire p) (sym at) (has_location c.args.self.now kept c.in-Some.ensures.some)

pub returns-in-Some-clause-bytes : goal.returns-in-Some-clause-bytes
returns-in-Some-clause-bytes c =
    let kept = c.in-Some.kept.now in
    let at : c.place_of.result ≡ place_at kept.head (length kept.bytes.items) = c.place_of.ensures ∙ ap (λ (t : List ℕ). place_at kept.head (length t)) c.as_slice-heads.ensures.value in
    subst (λ (p : Option Part). TellsLocation c.args.self.now.wire (bytes_at c.args.self.now.heads p)) (sym at) (tells_location c.args.self.now kept c.in-Some.ensures.some)

pub returns-in-Some-clause-within : goal.returns-in-Some-clause-within
returns-in-Some-clause-within c =
    let kept = c.in-Some.kept.now in
    let at : c.place_of.result ≡ place_at kept.head (length kept.bytes.items) = c.place_of.ensures ∙ ap (λ (t : List ℕ). place_at kept.head (length t)) c.as_slice-heads.ensures.value in
    subst (λ (p : Option Part). IsPlaceIn (length c.args.self.now.heads) p) (sym at) (location_within c.args.self.now kept c.in-Some.ensures.some)
