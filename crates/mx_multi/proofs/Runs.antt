-- Runs of calls.
use Rattle.std.proofs.Common.{Bool, true, false, MatchBool, ◌≡◌, ℕ, ◌+◌, ◌<◌, ◌∙◌, sym, refl, ap, subst, List, [], ◌∷◌, ◌++◌, append-nil, append_assoc, length, take, get_or}
use Rattle.std.proofs.lemmas.Bool.{false≢true}
use Rattle.std.proofs.lemmas.List.{take_more, map-append}
use Rattle.mx_types.specs.declared.event.Event.{Event}
use Rattle.mx_types.specs.declared.event.Who.{Who}
use Rattle.mx_types.specs.declared.origin.Origin.{Origin}
use Rattle.mx_types.specs.declared.call.Call.{Call}
use Rattle.mx_types.specs.declared.call.Receipt.{Receipt}
use Rattle.mx_types.specs.declared.reply.Reply.{Reply}
use Rattle.mx_journal.specs.Receipts.{IsPlaced}
use Rattle.mx_append_log.proofs.Prefixes.{prefix_self, prefix_trans}
use Rattle.mx_multi.specs.Seats.{MultiView, SeatView, Stands, Sees, IsNew, Later, Ran}
use Rattle.mx_multi.specs.Laws.{RanScript}
use Rattle.mx_multi.proofs.Opening.{new_received}

pub on_true : {A : Type 0} (B : Type 0) (b : Bool) → b ≡ true → MatchBool b A B → A
on_true B true is h = h
on_true B false is h = absurd (false≢true is)

pub later_none : {Q O : Type 0} (s : SeatView Q O) → Later s s []
later_none s = record { of = refl; who = refl; later = prefix_self s.seen; ties = prefix_self s.ties; legal = λ l. l; mine = sym (append-nil s.mine); placed = λ h. h }

-- one call more
pub later_more : {Q O : Type 0} (s t u : SeatView Q O) (more : List Receipt) (call : Call) (reply : Reply) → Later s t more → Stands t u call reply → Later s u (more ++ record { cut = length u.seen; call = call; reply = reply } ∷ [])
later_more s t u more call reply r h =
    let new : Receipt = record { cut = length u.seen; call = call; reply = reply } in
    record {
      of = h.of ∙ r.of;
      who = h.who ∙ r.who;
      later = prefix_trans s.seen t.seen u.seen r.later h.later;
      ties = prefix_trans s.ties t.ties u.ties r.ties h.ties;
      legal = λ _. h.legal;
      mine = h.mine ∙ ap (λ l. l ++ new ∷ []) r.mine ∙ append_assoc s.mine more (new ∷ []);
      placed = λ p. h.placed (r.placed p);
    }

-- a journal more that was seen
pub later_sees : {Q O : Type 0} (s t u : SeatView Q O) (more : List Receipt) → Later s t more → Sees t u → Later s u more
later_sees s t u more r h = record {
  of = h.of ∙ r.of;
  who = h.who ∙ r.who;
  later = prefix_trans s.seen t.seen u.seen r.later h.found.later;
  ties = prefix_trans s.ties t.ties u.ties r.ties h.ties;
  legal = λ _. h.legal;
  mine = h.mine ∙ r.mine;
  placed = λ p. h.placed (r.placed p);
}

ran_more : {Q O : Type 0} (s t u : SeatView Q O) (more : List Receipt) (call : Call) (reply : Reply) → Ran s t more → Stands t u call reply → Ran s u (more ++ record { cut = length u.seen; call = call; reply = reply } ∷ [])
ran_more s t u more call reply r h = record { run = later_more s t u more call reply r.run h; claims = h.claims ∙ r.claims }

pub script_none : {Q O : Type 0} (s : SeatView Q O) → RanScript s s []
script_none s = record { more = []; ran = record { run = later_none s; claims = refl }; calls = refl }

-- one call more
pub script_more : {Q O : Type 0} (s t u : SeatView Q O) (script : List Call) (n i : ℕ) (d : Call) (reply : Reply) → n ≡ i → i < length script → RanScript s t (take n script) → Stands t u (get_or script i d) reply → RanScript s u (take (n + 1) script)
script_more s t u script n i d reply e lt r h =
    let call = get_or script i d in
    let new : Receipt = record { cut = length u.seen; call = call; reply = reply } in
    let called = map-append (λ (x : Receipt). x.call) r.more (new ∷ []) in
    record {
      more = r.more ++ new ∷ [];
      ran = ran_more s t u r.more call reply r.ran h;
      calls = called ∙ ap (λ l. l ++ call ∷ []) (r.calls ∙ ap (λ k. take k script) e) ∙ sym (take_more script i d lt) ∙ ap (λ k. take (k + 1) script) (sym e);
    }

-- a seat that then met another
pub script_met : {Q O : Type 0} (s t u : SeatView Q O) (script : List Call) → RanScript s t script → Sees t u → u.claims ≡ t.claims → RanScript s u script
script_met s t u script r h claims = record {
  more = r.more;
  ran = record { run = later_sees s t u r.more r.ran.run h; claims = claims ∙ r.ran.claims };
  calls = r.calls;
}

-- a new seat has no receipts, so its first call is placed alone
pub first_is_placed : {Q O : Type 0} (m : MultiView Q O) (j : List Event) (ties : List Origin) (w : Who) (s t : SeatView Q O) (call : Call) (reply : Reply) → m.engine.opening.from ≡ length j → IsNew m j ties w s → Stands s t call reply
    → IsPlaced m.engine.opening w (record { cut = length t.seen; call = call; reply = reply } ∷ []) t.seen
first_is_placed {Q} {O} m j ties w s t call reply begun new h =
    let mine : List Receipt = record { cut = length t.seen; call = call; reply = reply } ∷ [] in
    let from = ap (λ (z : MultiView Q O). z.engine.opening.from) new.of in
    subst (λ (z : MultiView Q O). IsPlaced z.engine.opening w mine t.seen) (h.of ∙ new.of)
    (subst (λ x. IsPlaced t.of.engine.opening x mine t.seen) (h.who ∙ new.who)
    (subst (λ l. IsPlaced t.of.engine.opening t.who l t.seen) (h.mine ∙ ap (λ l. l ++ mine) new.mine) (h.placed (new_received s (from ∙ begun ∙ sym (ap length new.seen)) (new.polled ∙ sym from) new.mine)).placed))
