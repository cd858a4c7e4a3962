-- A reader that holds a response, by its decoder; and one of which more is to come.
use Rattle.std.proofs.Common.{◌≡◌, ℕ, Bool, false, List, refl, sym, ap, subst, ◌∙◌}
use Rattle.std.specs.Prelude.{Some, None}
use Rattle.mx_types.specs.declared.method.Method.{Method}
use Rattle.mx_body.specs.Decision.{IsVerdict}
use Rattle.mx_body.specs.Decoder.{Decoded, IsExact, stand_of}
use Rattle.mx_body.specs.declared.decoder.Stand.{Stand}
use Rattle.mx_body.specs.declared.decoder.Stand.TheVariants as stand
use Rattle.mx_body.specs.declared.verdict.Verdict.{Verdict}
use Rattle.mx_body.specs.declared.verdict.Verdict.TheVariants as verdict
use Rattle.mx_flow.specs.Streams.{IsUndecidedOf}
use Rattle.mx_reader.specs.Judgements.{Judgement, StandsSo}
use Rattle.mx_reader.specs.Laws.{MoreIsUndecided}
use Rattle.mx_reader.specs.Readers.{IsReader}
use Rattle.mx_reader.specs.Modes.{held}

pub held_is : (d : Decoded) → IsExact d → IsReader (held d)
held_is d exact = record { judged = (d.verdict, exact, refl); keeps = refl }

-- nothing is decided where the state says so
pub more_is : (v : Verdict) → stand_of v ≡ stand.More → v ≡ verdict.More
more_is verdict.More e = refl
more_is (verdict.Complete status len parts keep) e = let both : stand.Complete ≡ stand.More = e in absurd (cc)
more_is (verdict.Fault c) e = let both : stand.Fault c ≡ stand.More = e in absurd (cc)

undecided_held : (m : Method) (input : List ℕ) (ended : Bool) (v : Verdict) → IsVerdict m input ended v → stand_of v ≡ stand.More → (ended ≡ false) × IsVerdict m input false verdict.More
undecided_held m input ended v is e =
    let more = subst (IsVerdict m input ended) (more_is v e) is in
    (more.2, subst (λ (b : Bool). IsVerdict m input b verdict.More) more.2 more)

undecided_flowing : (limit : ℕ) (m : Method) (input : List ℕ) (ended : Bool) (j : Judgement) (s : Stand) → s ≡ stand.More → StandsSo limit m input ended j s → (ended ≡ false) × IsUndecidedOf limit m input
undecided_flowing limit m input ended j stand.More e x = (x.0.goes_on, x.0.undecided)
undecided_flowing limit m input ended j stand.Complete e x = let both : stand.Complete ≡ stand.More = e in absurd (cc)
undecided_flowing limit m input ended j (stand.Fault c) e x = let both : stand.Fault c ≡ stand.More = e in absurd (cc)

pub more_is_undecided : MoreIsUndecided
more_is_undecided None m input ended j is e = undecided_held m input ended is.0 is.1 (sym (ap (λ (k : Judgement). k.stand) is.2) ∙ e)
more_is_undecided (Some limit) m input ended j is e = undecided_flowing limit m input ended j j.stand e is.1
