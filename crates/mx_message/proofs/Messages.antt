-- Calls that wait for a message, and what is known of it then.
use Rattle.std.proofs.Common.{◌≡◌, ◌≢◌, ◌∙◌, inl, inr, sym, refl, ap, subst, ℕ, List, [], ◌∷◌, ◌++◌, append_assoc, length, Bool, true, false, if◌then◌else◌}
use Rattle.std.specs.Prelude.{IfErr, IfOk, Ok, Err, Result, MatchBool, MatchOption, Option, Some, None}
use Rattle.std.proofs.lemmas.List.Elements.{All-append, All-nil, All-push}
use Rattle.mx_types.specs.declared.code.Code.TheVariants as code
use Rattle.mx_types.specs.declared.names.HandleId.{HandleId}
use Rattle.mx_types.specs.declared.names.Ticket.{Ticket}
use Rattle.mx_types.specs.declared.call.Call.{Call}
use Rattle.mx_types.specs.declared.call.Call.TheVariants as call
use Rattle.mx_types.specs.declared.call.Receipt.{Receipt}
use Rattle.mx_types.specs.declared.event.Event.{Event}
use Rattle.mx_types.specs.declared.reply.Reply.{Reply}
use Rattle.mx_types.specs.declared.reply.Reply.TheVariants as reply
use Rattle.mx_request.specs.Request.{request_origin}
use Rattle.mx_body.specs.Parts.{joined}
use Rattle.mx_link.specs.Answers.{given}
use Rattle.mx_exchange.specs.Hops.{HasBody, HasContent}
use Rattle.mx_chain.specs.Outcomes.{OutcomeValue, IsEnd, IsOutcome, size_of}
use Rattle.mx_chain.specs.Hops.{is_ok}
use Rattle.mx_chain.proofs.HopLemmas.{end_held, held_size, ok_stays, settled_ok}
use Rattle.mx_journal.specs.History.{is_legal}
use Rattle.mx_journal.specs.Replies.{reply_of_info}
use Rattle.mx_journal.specs.declared.replies.InfoReply.{InfoReply}
use Rattle.mx_journal.specs.declared.replies.InfoReply.TheVariants as info
use Rattle.mx_history.proofs.LegalLaws.{each_at_most_once, nothing_after_removal}
use Rattle.mx_history.proofs.Messages.{first_in_first_out}
use Rattle.mx_lock.specs.Ties.{Tells, tie_read}
use Rattle.mx_append_log.proofs.Prefixes.{prefix_trans}
use Rattle.mx_multi.specs.Seats.{Later, SeatView, Stands}
use Rattle.mx_multi.proofs.Runs.{later_none, later_more}
use Rattle.mx_multi.proofs.Standing.{told_alike}
use Rattle.mx_message.specs.declared.next.Message.{Message}
use Rattle.mx_message.specs.declared.next.NoMessage.{NoMessage}
use Rattle.mx_message.specs.Message.{CarriesBody, DeliversBody, IsNextEnd, IsNextMessage, IsOrderly, IsRead, IsWait, Unread, Waited}

-- with code OK the wire is all that the last hop's link gave, and where the response is held the outcome carries the body
pub delivers : (o : OutcomeValue) → IsEnd o → (o.last.code ≢ code.OutOfMemory → o.wire ≡ given o.last.answers)
    → HasBody o.last → o.content ≡ o.last.content → (o.last.limit ≡ None → HasContent o.last) → o.code ≡ code.Ok → DeliversBody o
delivers o is all body handed content ok =
    let f = is.ends.failure in
    let chain : (is.end.code ≡ code.Ok) × (f ≡ None) = settled_ok f is.end.code is.ends.sinks (sym (ap (λ (x : OutcomeValue). x.code) is.ends.is) ∙ ok) in
    let ended : is.end.last.code ≡ code.Ok = ok_stays _ _ is.end.last is.end.code is.chain.ends chain.0 in
    let last : o.last.code ≡ code.Ok = ap (λ (x : OutcomeValue). x.last.code) is.ends.is ∙ ended in
    let within : given o.last.answers ≡ o.wire = sym (all (λ e. let bad : code.Ok ≡ code.OutOfMemory = sym last ∙ e in cc)) in
    record {
      within = within;
      body = body;
      handed = handed;
      held = λ held. carries o (end_held o is held) within (content held) ok;
    }
  where
    carries : (o : OutcomeValue) → IsOutcome o → given o.last.answers ≡ o.wire → HasContent o.last → o.code ≡ code.Ok → CarriesBody o
    carries o outcome within content ok =
        let parts : o.parts ≡ (if is_ok o.code then o.last.parts else []) = ap (λ x. x.parts) outcome.value in
        let as_ok : (if is_ok o.code then o.last.parts else []) ≡ o.last.parts = ap (λ c. if is_ok c then o.last.parts else []) ok in
        let bytes : o.wire ≡ o.last.wire = ap (λ x. x.wire) outcome.value in
        record {
          within = within;
          content = content;
          same = ap (λ x. joined x o.parts) bytes ∙ ap (joined o.last.wire) (parts ∙ as_ok);
        }

later_on : {Q O : Type 0} (s t u : SeatView Q O) (a b : List Receipt) → Later s t a → Later t u b → Later s u (a ++ b)
later_on s t u a b h k = record {
  of = k.of ∙ h.of;
  who = k.who ∙ h.who;
  later = prefix_trans s.seen t.seen u.seen h.later k.later;
  ties = prefix_trans s.ties t.ties u.ties h.ties k.ties;
  legal = λ l. k.legal (h.legal l);
  mine = k.mine ∙ ap (λ l. l ++ b) h.mine ∙ append_assoc s.mine a b;
  placed = λ p. k.placed (h.placed p);
}

module _ {Q : Type 0} where
  pub waited_none : (s : SeatView Q OutcomeValue) → Waited s s
  waited_none s = record { more = []; later = later_none s; waits = All-nil IsWait }

  pub waited_on : (s t u : SeatView Q OutcomeValue) → Waited s t → Waited t u → Waited s u
  waited_on s t u h k = record {
    more = h.more ++ k.more;
    later = later_on s t u h.more k.more h.later k.later;
    waits = All-append IsWait h.more k.more h.waits k.waits;
  }

  waited_more : (s t u : SeatView Q OutcomeValue) (c : Call) (p : Reply) → ((cut : ℕ) → IsWait (record { cut = cut; call = c; reply = p }))
      → Waited s t → Stands t u c p → Waited s u
  waited_more s t u c p is h k =
      let new : Receipt = record { cut = length u.seen; call = c; reply = p } in
      record { more = h.more ++ new ∷ []; later = later_more s t u h.more c p h.later k; waits = All-push IsWait h.more new h.waits (is (length u.seen)) }

  -- a reading that found none
  pub found_none : (s t : SeatView Q OutcomeValue) (r : InfoReply OutcomeValue) → r ≡ info.Empty
      → Stands s t call.InfoRead (reply_of_info (λ x. x.code) size_of r) → Waited s t
  found_none s t r is h =
      waited_more s s t call.InfoRead reply.Empty (λ cut. inl (refl, refl)) (waited_none s)
      (subst (λ x. Stands s t call.InfoRead (reply_of_info (λ x. x.code) size_of x)) is h)

  -- and a poll after it
  pub polled : (s t u : SeatView Q OutcomeValue) → Waited s t → Stands t u call.Poll reply.Woken → Waited s u
  polled s t u h k = waited_more s t u call.Poll reply.Woken (λ cut. inr (refl, refl)) h k

  -- a poll for a while, which may have found none ready
  pub polled_or_not : (s t : SeatView Q OutcomeValue) (woken : Bool) (P : Type 0) → MatchBool woken (Stands s t call.Poll reply.Woken × P) (t ≡ s) → Waited s t
  polled_or_not s t true P h = polled s s t (waited_none s) h.0
  polled_or_not s t false P h = subst (Waited s) (sym h) (waited_none s)

  -- where nothing was answered, where a reading was refused memory, and where a reading found none and no poll was answered
  pub unread_same : (s t : SeatView Q OutcomeValue) → t ≡ s → Unread s t
  unread_same s t e = record { at = s; waited = waited_none s; last = inl e }

  pub unread_lacks : (s t : SeatView Q OutcomeValue) (r : InfoReply OutcomeValue) → r ≡ info.OutOfMemory
      → Stands s t call.InfoRead (reply_of_info (λ x. x.code) size_of r) → Unread s t
  unread_lacks s t r is h = record {
    at = s;
    waited = waited_none s;
    last = inr (subst (λ x. Stands s t call.InfoRead (reply_of_info (λ x. x.code) size_of x)) is h);
  }

  pub unread_polled : (s t u : SeatView Q OutcomeValue) → Waited s t → u ≡ t → Unread s u
  unread_polled s t u h e = record { at = t; waited = h; last = inl e }

  -- after calls that waited
  pub unread_on : (s t u : SeatView Q OutcomeValue) → Waited s t → Unread t u → Unread s u
  unread_on s t u h k = record { at = k.at; waited = waited_on s t k.at h k.waited; last = k.last }

  -- what was read
  pub read_is : (s t : SeatView Q OutcomeValue) (r : InfoReply OutcomeValue) (h : HandleId) (ticket : Ticket) (o : OutcomeValue) (left : ℕ) → r ≡ info.Message h ticket o left
      → Stands s t call.InfoRead (reply_of_info (λ x. x.code) size_of r) → Tells (tie_read (λ x. request_origin x.request) r) t.ties → IsEnd o → (o.code ≡ code.Ok → DeliversBody o) → IsRead s t h ticket o left
  read_is s t r h ticket o left is stands tells end body = record {
    stands = subst (λ x. Stands s t call.InfoRead (reply_of_info (λ x. x.code) size_of x)) is stands;
    end = end;
    body = body;
    of_addition = subst (λ x. Tells (tie_read (λ x. request_origin x.request) x) t.ties) is tells;
  }

orderly : (j : List Event) (t : Ticket) → is_legal j ≡ true → IsOrderly j t
orderly j t legal =
    let n = each_at_most_once j legal t in
    record {
      legal = legal;
      ended = n.1;
      read = n.2;
      removed = n.3;
      none_after = λ f later w h is. nothing_after_removal f later w h t (ap is_legal (sym is) ∙ legal);
      in_order = first_in_first_out j legal;
    }

-- what holds whatever was refused
pub if_refused : {A E : Type 0} {P : Type 0} (r : Result A E) → P → IfErr r (λ _. P)
if_refused (Ok a) p = tt
if_refused (Err e) p = p

pub next : {Q : Type 0} (s at t : SeatView Q OutcomeValue) (h : HandleId) (ticket : Ticket) (o : OutcomeValue) (left : ℕ) → Waited s at → IsRead at t h ticket o left → IsNextEnd s t h ticket o left
next s at t h ticket o left w r = record {
  at = at;
  waited = w;
  stands = r.stands;
  orderly = orderly t.seen ticket r.stands.legal;
  end = r.end;
  body = r.body;
  of_addition = r.of_addition;
  as_told = λ origin told. sym (told_alike s.ties t.ties (inl (prefix_trans s.ties at.ties t.ties w.later.ties r.stands.ties)) ticket origin (request_origin o.request) told r.of_addition);
}

-- where its response is held
pub held_next : {Q : Type 0} (s t : SeatView Q OutcomeValue) (h : HandleId) (ticket : Ticket) (o : OutcomeValue) (left : ℕ) → IsOutcome o → IsNextEnd s t h ticket o left → IsNextMessage s t h ticket o left
held_next s t h ticket o left outcome r = record {
  at = r.at;
  waited = r.waited;
  stands = subst (λ n. Stands r.at t call.InfoRead (reply.Message h ticket o.code n left)) (held_size o outcome.held) r.stands;
  orderly = r.orderly;
  outcome = outcome;
  body = λ ok. (r.body ok).held outcome.held;
  of_addition = r.of_addition;
  as_told = r.as_told;
}

-- what is read after calls that waited
pub next_of : {Q : Type 0} (s at t : SeatView Q OutcomeValue) {D : Type 0} (r : Result (Option (Message D)) NoMessage) → Waited s at
    → IfOk r (λ o. MatchOption o (Waited at t) (λ m. (m.code ≡ m.outcome.code) × IsRead at t m.handle m.ticket m.outcome m.left))
    → IfOk r (λ o. MatchOption o (Waited s t) (λ m. IsNextEnd s t m.handle m.ticket m.outcome m.left))
next_of s at t (Ok None) w h = waited_on s at t w h
next_of s at t (Ok (Some m)) w h = next s at t m.handle m.ticket m.outcome m.left w h.1
next_of s at t (Err e) w h = tt

pub unread_from : {Q A E : Type 0} (s at t : SeatView Q OutcomeValue) (r : Result A E) → Waited s at → IfErr r (λ _. Unread at t) → IfErr r (λ _. Unread s t)
unread_from s at t (Ok a) w h = tt
unread_from s at t (Err e) w h = unread_on s at t w h
