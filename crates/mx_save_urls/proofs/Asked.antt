-- What is added at a desk of the URLs of a run, one step further.
use Rattle.std.proofs.Common.{◌≡◌, ◌∙◌, refl, ap, sym, subst, ℕ, suc, zero, List, [], ◌∷◌, true, false, inl, inr}
use Rattle.std.specs.Prelude.{Option, Some, None, count_by, is_some, slice_get, slice_set}
use Rattle.mx_types.specs.declared.names.Ticket.{Ticket}
use Rattle.mx_request.specs.Request.{RequestValue}
use Rattle.mx_desk.proofs.Desks.{none_is_added}
use Rattle.mx_fetch.proofs.Lists.{cases, stays, there}
use Rattle.mx_save_book.specs.Books.{HasNoneAdded, IsAdded, IsAwaited, IsClosed, IsJobFor, awaits_at, is_unadded}
use Rattle.mx_save_book.specs.Jobs.{Asks, job_at, job_of}
use Rattle.mx_save_rules.specs.declared.asking.Asking.{Asking}
use Rattle.mx_save_book.specs.declared.job.Job.{Job}
use Rattle.mx_save_book.specs.declared.job.Slot.{Slot}
use Rattle.mx_save_book.specs.declared.job.Slot.TheVariants as slot
use Rattle.mx_save_urls.specs.Works.{AddsNone}
use Rattle.mx_save_urls.specs.Asked.{AreAsked}

-- the URL that is in a slot
job_there : (slots : List Slot) (i : ℕ) (s : Slot) → slice_get slots i ≡ Some s → job_at slots i ≡ job_of s
job_there [] i s is = absurd (cc)
job_there (t ∷ ts) zero s is = let same : t ≡ s = cc in ap job_of same
job_there (t ∷ ts) (suc i) s is = job_there ts i s is

pub awaited : (slots : List Slot) (i : ℕ) (t : Ticket) → awaits_at slots i t ≡ true → IsAwaited slots i
awaited [] i t is = let bad : false ≡ true = is in absurd (cc)
awaited (slot.Free ∷ ss) zero t is = let bad : false ≡ true = is in absurd (cc)
awaited (slot.Waiting job ∷ ss) zero t is = let bad : false ≡ true = is in absurd (cc)
awaited (slot.Open job number ∷ ss) zero t is = let bad : false ≡ true = is in absurd (cc)
awaited (slot.Added job ticket number ∷ ss) zero t is = (job, ticket, number, refl)
awaited (s ∷ ss) (suc i) t is = awaited ss i t is

-- where none is added
pub asked_none : (asking : Asking) (slots : List Slot) (asked : List (Option RequestValue)) → HasNoneAdded slots → AreAsked asking slots asked
asked_none asking slots asked none i job ticket number is = absurd (none i job ticket number is)

pub none_asked : (asking : Asking) (slots : List Slot) (asked : List (Option RequestValue)) → count_by is_some asked ≡ 0 → AreAsked asking slots asked → HasNoneAdded slots
none_asked asking slots asked none all i job ticket number is = let a = all i job ticket number is in none_is_added asked i a.0 none a.1

-- where no more were added
pub asked_on : (asking also : Asking) (old new : List Slot) (asked now : List (Option RequestValue)) → also ≡ asking → AddsNone old new → now ≡ asked → AreAsked asking old asked → AreAsked also new now
asked_on asking also old new asked now same none stay all i job ticket number is =
    let a = all i job ticket number (none i job ticket number is) in
    (a.0, ap (λ l. slice_get l i) stay ∙ a.1, subst (λ k. Asks k job.url.items a.0) (sym same) a.2)

-- where one was
pub asked_more : (asking also : Asking) (old new : List Slot) (asked now : List (Option RequestValue)) (at : ℕ) (t : Ticket) (request : RequestValue) → also ≡ asking
    → IsAdded old new at t → IsJobFor asking old at request → slice_get asked at ≡ Some None → now ≡ slice_set asked at (Some request)
    → AreAsked asking old asked → AreAsked also new now
asked_more asking also old new asked now at t request same added for free is_now all i job ticket number is =
    elim (cases old at i (slot.Added added.job t added.number) (slot.Added job ticket number) (ap (λ l. slice_get l i) (sym added.is) ∙ is)) as (λ _. (r : RequestValue) × (slice_get now i ≡ Some (Some r)) × Asks also job.url.items r) [
      | inl c ↦
          let same_job : added.job ≡ job = cc in
          let its : for.job ≡ added.job = let e : Some for.job ≡ Some added.job = sym for.there ∙ job_there old at (slot.Open added.job added.number) added.there in cc in (
            request,
            ap (λ l. slice_get l i) is_now ∙ ap (slice_get (slice_set asked at (Some request))) c.0 ∙ there asked at None (Some request) free,
            subst (λ k. Asks k job.url.items request) (sym same) (subst (λ j. Asks asking j.url.items request) (its ∙ same_job) for.asked),
          )
      | inr c ↦
          let a = all i job ticket number c.1 in (
            a.0,
            ap (λ l. slice_get l i) is_now ∙ stays asked at i (Some request) c.0 ∙ a.1,
            subst (λ k. Asks k job.url.items a.0) (sym same) a.2,
          )
    ]

-- where one has ended
pub asked_less : (asking also : Asking) (old new : List Slot) (asked now : List (Option RequestValue)) (at : ℕ) → also ≡ asking
    → IsClosed old new at → now ≡ slice_set asked at None → AreAsked asking old asked → AreAsked also new now
asked_less asking also old new asked now at same closed is_now all i job ticket number is =
    elim (cases old at i closed.left (slot.Added job ticket number) (ap (λ l. slice_get l i) (sym closed.is) ∙ is)) as (λ _. (r : RequestValue) × (slice_get now i ≡ Some (Some r)) × Asks also job.url.items r) [
      | inl c ↦ let bad : false ≡ true = sym (ap is_unadded c.1) ∙ closed.unadded in absurd (cc)
      | inr c ↦
          let a = all i job ticket number c.1 in (
            a.0,
            ap (λ l. slice_get l i) is_now ∙ stays asked at i None c.0 ∙ a.1,
            subst (λ k. Asks k job.url.items a.0) (sym same) a.2,
          )
    ]

-- the request that has ended is that of its URL
pub ended_for : (asking : Asking) (slots : List Slot) (asked : List (Option RequestValue)) (at : ℕ) (t : Ticket) (request : RequestValue)
    → awaits_at slots at t ≡ true → slice_get asked at ≡ Some (Some request) → AreAsked asking slots asked → IsJobFor asking slots at request
ended_for asking slots asked at t request awaits added all =
    let w = awaited slots at t awaits in
    let a = all at w.0 w.1 w.2 w.3 in
    let same : a.0 ≡ request = let e : Some (Some a.0) ≡ Some (Some request) = sym a.1 ∙ added in cc in
    record {
      job = w.0;
      there = job_there slots at (slot.Added w.0 w.1 w.2) w.3;
      asked = subst (λ r. Asks asking w.0.url.items r) same a.2;
    }

-- the request of a URL that has a part since, or waits for the same try again, is still its own
pub job_on : (asking also : Asking) (old new : List Slot) (at : ℕ) (v : Slot) (job : Job) (request : RequestValue) → also ≡ asking → job_at old at ≡ Some job
    → slice_get new at ≡ Some v → job_of v ≡ Some job → IsJobFor asking old at request → IsJobFor also new at request
job_on asking also old new at v job request same there here its for =
    let is : for.job ≡ job = let e : Some for.job ≡ Some job = sym for.there ∙ there in cc in
    record {
      job = job;
      there = job_there new at v here ∙ its;
      asked = subst (λ k. Asks k job.url.items request) (sym same) (subst (λ j. Asks asking j.url.items request) is for.asked);
    }
