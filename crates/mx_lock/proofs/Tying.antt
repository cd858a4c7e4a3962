-- The ties go along with the control state.
use Rattle.std.proofs.Common.{◌≡◌, inl, inr, ℕ, ◌<◌, ◌∙◌, sym, refl, ap, subst, List, [], ◌∷◌, ◌++◌, true, false, arith}
use Rattle.std.specs.Prelude.{zero, suc, slice_get, length, Some}
use mathlib.Core.List.{IsPrefix}
use Rattle.mx_append_log.specs.Log.{AreOfOneList}
use Rattle.mx_types.specs.declared.names.HandleId.{HandleId}
use Rattle.mx_types.specs.declared.names.Ticket.{Ticket}
use Rattle.mx_types.specs.declared.code.Code.{Code}
use Rattle.mx_types.specs.declared.event.Who.{Who}
use Rattle.mx_types.specs.declared.event.Event.{Event}
use Rattle.mx_types.specs.declared.call.Call.TheVariants as call
use Rattle.mx_types.specs.declared.origin.Origin.{Origin}
use Rattle.mx_journal.specs.declared.replies.AddReply.{AddReply}
use Rattle.mx_journal.specs.declared.replies.AddReply.TheVariants as add
use Rattle.mx_journal.specs.declared.replies.FinishReply.{FinishReply}
use Rattle.mx_journal.specs.declared.replies.FinishReply.TheVariants as finish
use Rattle.mx_journal.specs.declared.replies.GiveBackReply.{GiveBackReply}
use Rattle.mx_journal.specs.declared.replies.GiveBackReply.TheVariants as giving
use Rattle.mx_journal.specs.declared.replies.InfoReply.{InfoReply}
use Rattle.mx_journal.specs.declared.replies.InfoReply.TheVariants as info
use Rattle.mx_journal.specs.History.{Opening, beyond, has_ticket, is_legal, running}
use Rattle.mx_journal.specs.Answers.{Answers, next_ticket}
use Rattle.mx_journal.specs.Receipts.{comes_with_event}
use Rattle.mx_journal.specs.Called.{out_after}
use Rattle.mx_journal.specs.Core.{AreOwn, Core, claimed, origin_of, with_out}
use Rattle.mx_journal.specs.Replies.{ending_read, is_back, origins_added, origins_given, reply_of_add, reply_of_finish}
use Rattle.mx_history.proofs.Lists.{has-filter}
use Rattle.mx_history.proofs.Histories.{below, laws}
use Rattle.mx_lock.specs.Ties.{AreOfAdditions, Has, IsTied, Tells, tie, tie_added, tie_read}
use Rattle.mx_lock.proofs.Claims.{claimed_runs}
use Rattle.mx_lock.proofs.Made.{added_as, recorded_runs}

-- 1. Of lists of ties.

gets_more : (xs ys : List Origin) (k : ℕ) (x : Origin) → slice_get xs k ≡ Some x → slice_get (xs ++ ys) k ≡ Some x
gets_more [] ys k x e = cc
gets_more (y ∷ xs) ys zero x e = e
gets_more (y ∷ xs) ys (suc k) x e = gets_more xs ys k x e

gets_less : (xs ys : List Origin) (k : ℕ) (x : Origin) → k < length xs → slice_get (xs ++ ys) k ≡ Some x → slice_get xs k ≡ Some x
gets_less [] ys k x lt e = absurd (omega (arith, lt))
gets_less (y ∷ xs) ys zero x lt e = e
gets_less (y ∷ xs) ys (suc k) x lt e = gets_less xs ys k x (omega (arith, lt)) e

gets_last : (xs : List Origin) (x : Origin) → slice_get (xs ++ x ∷ []) (length xs) ≡ Some x
gets_last [] x = refl
gets_last (y ∷ xs) x = gets_last xs x

pub has_more : (xs ys : List Origin) (t : Ticket) (origin : Origin) → IsPrefix xs ys → Has xs (tie t origin) → Has ys (tie t origin)
has_more xs ys t origin p h = subst (λ l. slice_get l t.0 ≡ Some origin) p.1 (gets_more xs p.0 t.0 origin h)

-- what a mark knows of a ticket that is in the list, the list has
had : (origins marked : List Origin) (t : Ticket) (origin : Origin) → AreOfOneList origins marked → t.0 < length origins → origin_of t marked ≡ Some origin → origin_of t origins ≡ Some origin
had origins marked t origin (inl p) lt e = gets_less origins p.0 t.0 origin lt (subst (λ l. slice_get l t.0 ≡ Some origin) (sym p.1) e)
had origins marked t origin (inr p) lt e = has_more marked origins t origin p e

-- what a mark knows of a ticket that runs is so
pub known : (opening : Opening) (j : List Event) (origins marked : List Origin) (t : Ticket) (origin : Origin) → is_legal j ≡ true → length origins ≡ (next_ticket opening j).0 → AreOfOneList origins marked → origin_of t marked ≡ Some origin
    → has_ticket t (running j) ≡ true → origin_of t origins ≡ Some origin
known opening j origins marked t origin legal each one e runs =
    let lt : t.0 < beyond j = below j (laws j legal) t (has-filter t _ _ runs).0 in
    had origins marked t origin one (omega (arith, lt, each)) e

-- 2. Of control states.

module _ {Q O : Type 0} (ending : O → Origin) where
  pub tied_on : (x y : Core Q O) (ties : List Origin) → IsTied ending x ties → y.origins ≡ x.origins → (AreOwn ending x.origins x.endings → AreOwn ending y.origins y.endings) → IsTied ending y ties
  tied_on x y ties h same own =
      let is : y.origins ≡ ties = same ∙ h.same in
      record { same = is; endings = subst (λ l. AreOwn ending l y.endings) is (own (subst (λ l. AreOwn ending l x.endings) (sym h.same) h.endings)) }

  -- a call that leaves the endings
  pub tied_same : (x y : Core Q O) (ties : List Origin) → IsTied ending x ties → y.origins ≡ x.origins → y.endings ≡ x.endings → IsTied ending y ties
  tied_same x y ties h same endings = record { same = same ∙ h.same; endings = subst (AreOwn ending ties) (sym endings) h.endings }

  -- what a message took is of its ticket's addition
  pub read_tells : (x : Core Q O) (ties : List Origin) (r : InfoReply O) → IsTied ending x ties → AreOwn ending x.origins (ending_read r) → Tells (tie_read ending r) ties
  read_tells x ties (info.Message h t o left) is e = ap (origin_of t) (sym is.same) ∙ e.0
  read_tells x ties info.Empty is e = tt
  read_tells x ties info.OutOfMemory is e = tt

  -- an addition
  pub tied_added : (x y : Core Q O) (ties : List Origin) (r : AddReply Q) (origin : Origin) → IsTied ending x ties → y.origins ≡ origins_added r x.origins origin → (AreOwn ending x.origins x.endings → AreOwn ending y.origins y.endings)
      → IsTied ending y (origins_added r ties origin)
  tied_added x y ties r origin h grown own =
      let is : y.origins ≡ origins_added r ties origin = grown ∙ ap (λ l. origins_added r l origin) h.same in
      record { same = is; endings = subst (λ l. AreOwn ending l y.endings) is (own (subst (λ l. AreOwn ending l x.endings) (sym h.same) h.endings)) }

  pub added_tells : (w : Who) (handle : HandleId) (x : Core Q O) (k : List Event) (ties : List Origin) (r : AddReply Q) (origin : Origin) → IsTied ending x ties → length x.origins ≡ (next_ticket x.opening x.journal).0
      → Answers x.opening w (call.Add handle) x.journal (reply_of_add r) k → Tells (tie_added r origin) (origins_added r ties origin)
  added_tells w handle x k ties (add.Added t) origin h each a =
      let at : t.0 ≡ length ties = ap (λ (u : Ticket). u.0) (added_as x.opening w handle x.journal t k a) ∙ sym each ∙ ap length h.same in
      ap (slice_get (ties ++ origin ∷ [])) at ∙ gets_last ties origin
  added_tells w handle x k ties (add.AddedAlready b) origin h each a = tt
  added_tells w handle x k ties (add.TableFull b) origin h each a = tt
  added_tells w handle x k ties (add.TicketsSpent b) origin h each a = tt
  added_tells w handle x k ties (add.HistoryFull b) origin h each a = tt
  added_tells w handle x k ties (add.OutOfMemory b) origin h each a = tt

  -- an end, by a claim whose mark knows its ticket's addition
  pub tied_finished : {C : Type 0} (opening : Opening) (w : Who) (t : Ticket) (code : Code) (size : ℕ) (r : FinishReply C O) (x y : Core Q O) (ties marked : List Origin) (origin : Origin)
      → IsTied ending x ties → is_legal x.journal ≡ true → length x.origins ≡ (next_ticket x.opening x.journal).0 → AreOfOneList ties marked → origin_of t marked ≡ Some origin
      → Answers opening w (call.Finish t code size) x.journal (reply_of_finish r) y.journal → y.origins ≡ x.origins → (comes_with_event (reply_of_finish r) ≡ false → y ≡ with_out (out_after (reply_of_finish r) x.out) x)
      → (AreOwn ending x.origins x.endings → origin_of t x.origins ≡ Some origin → AreOwn ending y.origins y.endings) → IsTied ending y ties
  tied_finished opening w t code size finish.Recorded x y ties marked origin h legal each one known_ a same unchanged own =
      let one_ : AreOfOneList x.origins marked = subst (λ l. AreOfOneList l marked) (sym h.same) one in
      let is : origin_of t x.origins ≡ Some origin = known x.opening x.journal x.origins marked t origin legal each one_ known_ (recorded_runs opening w t code size x.journal y.journal a) in
      tied_on x y ties h same (λ e. own e is)
  tied_finished opening w t code size (finish.Stale b) x y ties marked origin h legal each one known_ a same unchanged own = subst (λ (z : Core Q O). IsTied ending z ties) (sym (unchanged refl)) (record { same = h.same; endings = h.endings })
  tied_finished opening w t code size (finish.OutOfMemory b o) x y ties marked origin h legal each one known_ a same unchanged own = subst (λ (z : Core Q O). IsTied ending z ties) (sym (unchanged refl)) (record { same = h.same; endings = h.endings })

  -- work that was given back, by such a claim
  pub tied_given : (r : GiveBackReply Q) (x y : Core Q O) (ties marked : List Origin) (t : Ticket) (origin : Origin)
      → IsTied ending x ties → is_legal x.journal ≡ true → length x.origins ≡ (next_ticket x.opening x.journal).0 → AreOfOneList ties marked → origin_of t marked ≡ Some origin
      → is_back r ≡ has_ticket t (claimed x.journal x.queue) → y.endings ≡ x.endings → y.origins ≡ origins_given r x.origins t origin → (origin_of t x.origins ≡ Some origin → y.origins ≡ x.origins) → IsTied ending y ties
  tied_given giving.Back x y ties marked t origin h legal each one known_ back endings given same =
      let one_ : AreOfOneList x.origins marked = subst (λ l. AreOfOneList l marked) (sym h.same) one in
      let is : origin_of t x.origins ≡ Some origin = known x.opening x.journal x.origins marked t origin legal each one_ known_ (claimed_runs t x.journal x.queue (sym back)) in
      tied_same x y ties h (same is) endings
  tied_given (giving.Stale _) x y ties marked t origin h legal each one known_ back endings given same = tied_same x y ties h given endings

  -- the content of the lock is of its tickets' additions
  pub of_additions : (work : Q → Origin) (x : Core Q O) (ties : List Origin) → IsTied ending x ties → length x.origins ≡ (next_ticket x.opening x.journal).0 → AreOwn work x.origins x.queue → AreOfAdditions work ending x ties
  of_additions work x ties h each own = record {
    each = ap length (sym h.same) ∙ each;
    queue = subst (λ l. AreOwn work l x.queue) h.same own;
    endings = h.endings;
  }
