use Rattle.std.proofs.Common.{◌≡◌, ◌∙◌, ◌<◌, ap, length, refl, subst, sym}
use Rattle.std.specs.Prelude.{Ok, Some}
use Rattle.mx_run_get.proofs.Gets.{getting_more, known_more, next_is, refusal_is}
use Rattle.mx_run_get.specs.Asked.{asked_of}
use Rattle.mx_run_get.specs.Getting.{AreAwaited, GettingValue, asked_next}
use Rattle.mx_run_get.specs.declared.place.Place.TheVariants.{Known}
use Rattle.mx_run_get.proofs.getting.Getting.add.Goals as goal

pub add_request-requires-clause-next : goal.add_request-requires-clause-next
add_request-requires-clause-next g c =
    let s = c.self.inside in
    let more = subst (λ (d : GettingValue). length d.places < length d.urls) (sym c.self.view_is) c.requires.more in
    subst (λ (d : GettingValue). asked_next d ≡ Some (Ok c.in-Ok.request)) c.self.view_is
    (next_is (λ u. u.now) s.urls.now s.options s.places.items (g.T.TakeEnds.taken s.taker) (g.T.TakeEnds.begun s.taker) (length c.as_slice.result.now) _ (Ok c.in-Ok.request) (ap length c.as_slice.ensures.value) more c.in-Ok.ensures)

pub invariant_of-self-in-Err : goal.invariant_of-self-in-Err
invariant_of-self-in-Err g c =
    let s = c.self.inside in
    let more = subst (λ (d : GettingValue). length d.places < length d.urls) (sym c.self.view_is) c.requires.more in
    let next = next_is (λ u. u.now) s.urls.now s.options s.places.items (g.T.TakeEnds.taken s.taker) (g.T.TakeEnds.begun s.taker) (length c.as_slice.result.now) _ _ (ap length c.as_slice.ensures.value) more
    (refusal_is _ c.in-Err.error c.in-Err.ensures c.in_ok-end-in-Err.ensures.other) in
    getting_more _ _ (Known c.in_ok-end-in-Err.end) refl refl refl c.in_ok-push-in-Err.ensures.items (next ∙ ap (λ e. Some (asked_of e)) (sym c.in_ok-end-in-Err.ensures.end)) c.self.invariant

pub returns-in_ok-push-in-Err : goal.returns-in_ok-push-in-Err
returns-in_ok-push-in-Err g c =
    let asked = c.args.desk.now.asked in
    let all = subst (λ (d : GettingValue). AreAwaited d.places asked) (sym c.self.view_is) c.requires.all in
    record {
      all = known_more c.self.inside.places.items c.push.new.self.items asked (Known c.in_ok-end-in-Err.end) c.in_ok-push-in-Err.ensures.items refl all;
      same = (ap (λ d. d.urls) c.self.view_is, ap (λ d. d.options) c.self.view_is, ap (λ d. d.begun) c.self.view_is);
    }
