-- The state of an added handle, by what waits and what runs.
use Rattle.std.proofs.Common.{◌≡◌, ◌∙◌, sym, refl, ap, subst, List, [], ◌∷◌, ◌++◌, Bool, true, false, cond}
use Rattle.std.specs.Prelude.{not, ◌||◌, Option, Some, None}
use Rattle.std.specs.List.{filter, find}
use Rattle.std.specs.Option.{option_map, option_or, option_to_list}
use Rattle.std.proofs.lemmas.Bool.{false≢true}
use Rattle.mx_types.specs.declared.code.Code.{Code}
use Rattle.mx_types.specs.declared.names.Ticket.{Ticket}
use Rattle.mx_types.specs.declared.event.What.{What}
use Rattle.mx_types.specs.declared.event.What.TheVariants as what
use Rattle.mx_types.specs.declared.event.Event.{Event}
use Rattle.mx_types.specs.declared.reply.State.{State}
use Rattle.mx_types.specs.declared.reply.State.TheVariants as state
use Rattle.mx_history.specs.declared.row.Phase.{Phase}
use Rattle.mx_history.specs.declared.row.Phase.TheVariants as phase
use Rattle.mx_history.specs.History.{Message, message_of, same_handle, same_ticket, occurs, reads, removes, added, waiting, running, paused, has_ticket, last_is_pause, end_by, end_of, phase_by, phase_of, is_legal}
use Rattle.mx_history.specs.Answers.{state_at}
use Rattle.mx_history.specs.Rows.{is_open, is_paused}
use Rattle.mx_history.specs.Laws.{says_done, waiting_code, IsStateOf, StateAndLookAgree}
use Rattle.mx_history.proofs.Lists.{same-is}
use Rattle.mx_history.proofs.Histories.{tickets, laws, has_addition, IsUnread}
use Rattle.mx_history.proofs.Tables.{found, runs-phase}
use Rattle.mx_history.proofs.TableLaws.{held-phase}
use Rattle.mx_history.proofs.Tickets.{found_any}
use Rattle.mx_history.proofs.LegalLaws.{unremoved}

either_off : (a b : Bool) → (a || b) ≡ false → (a ≡ false) × (b ≡ false)
either_off false b h = (refl, h)
either_off true b h = absurd (false≢true (sym h))

-- a ticket that is neither read nor removed is not taken
untaken : (t : Ticket) (j : List Event) → occurs (reads t) j ≡ false → occurs (removes t) j ≡ false → occurs (λ e. reads t e || removes t e) j ≡ false
untaken t [] r x = refl
untaken t (e ∷ j) r x =
    let p = either_off (reads t e.what) (occurs (reads t) j) r in
    let q = either_off (removes t e.what) (occurs (removes t) j) x in
    rw (p.0, q.0) (untaken t j p.1 q.1)

abbrev code_in : Ticket → List Message → Option Code
code_in t ms = option_map (λ m. m.code) (find (λ m. same_ticket t m.ticket) ms)

abbrev left_by : What → List Event → List Message
left_by e later = filter (λ m. not (occurs (λ x. reads m.ticket x || removes m.ticket x) later)) (option_to_list (message_of e))

-- an unread end of a ticket that is not removed leaves its code in what waits; so does one further event before it
code_by : (t : Ticket) (e : What) (j : List Event) (c : Code) → (removes t e || occurs (removes t) j) ≡ false → option_or (end_by t e j) (end_of t j) ≡ Some (c, false)
    → (occurs (removes t) j ≡ false → end_of t j ≡ Some (c, false) → code_in t (waiting j) ≡ Some c) → code_in t (left_by e j ++ waiting j) ≡ Some c
code_by t (what.Done u d n) j c x q h = go (same_ticket t u) refl q
  where
    there : (b : Bool) → not b ≡ true → same_ticket t u ≡ true → code_in t (cond (not b) (record { ticket = u; code = d; size = n } ∷ []) [] ++ waiting j) ≡ Some d
    there false on is = ap (λ (s : Bool). option_map (λ (m : Message). m.code) (cond {A = Option Message} s (Some (record { ticket = u; code = d; size = n })) (find (λ m. same_ticket t m.ticket) (waiting j)))) is
    there true on is = absurd (false≢true on)

    passed : (b : Bool) → same_ticket t u ≡ false → code_in t (cond b (record { ticket = u; code = d; size = n } ∷ []) [] ++ waiting j) ≡ code_in t (waiting j)
    passed true is = ap (λ (s : Bool). option_map (λ (m : Message). m.code) (cond {A = Option Message} s (Some (record { ticket = u; code = d; size = n })) (find (λ m. same_ticket t m.ticket) (waiting j)))) is
    passed false is = refl

    go : (s : Bool) → same_ticket t u ≡ s → option_or (cond s (Some (d, occurs (reads t) j)) None) (end_of t j) ≡ Some (c, false)
        → code_in t (cond (not (occurs (λ x. reads u x || removes u x) j)) (record { ticket = u; code = d; size = n } ∷ []) [] ++ waiting j) ≡ Some c
    go true is k =
        let end : (d, occurs (reads t) j) ≡ (c, false) = cc in
        let code : d ≡ c = ap (λ (x : Code × Bool). x.0) end in
        let unread : occurs (reads t) j ≡ false = ap (λ (x : Code × Bool). x.1) end in
        let kept : occurs (λ x. reads u x || removes u x) j ≡ false = subst (λ v. occurs (λ x. reads v x || removes v x) j ≡ false) (same-is t u is) (untaken t j unread x) in
        there (occurs (λ x. reads u x || removes u x) j) (ap not kept) is ∙ ap Some code
    go false is k = passed (not (occurs (λ x. reads u x || removes u x) j)) is ∙ h x k
code_by t (what.Removed g u) j c x q h = h (either_off (same_ticket t u) (occurs (removes t) j) x).1 q
code_by t (what.Added g u) j c x q h = h x q
code_by t (what.Read u) j c x q h = h x q
code_by t (what.Paused u) j c x q h = h x q
code_by t (what.Resumed u) j c x q h = h x q
code_by t what.Wake j c x q h = h x q

end_waits : (t : Ticket) (j : List Event) (c : Code) → occurs (removes t) j ≡ false → end_of t j ≡ Some (c, false) → code_in t (waiting j) ≡ Some c
end_waits t [] c x q = cc
end_waits t (e ∷ j) c x q = code_by t e.what j c x q (end_waits t j c)

ended_unread : (o : Option (Code × Bool)) (held : Bool) (c : Code) → phase_by o held ≡ phase.Done c → o ≡ Some (c, false)
ended_unread None true c e = cc
ended_unread None false c e = cc
ended_unread (Some (d, true)) held c e = cc
ended_unread (Some (d, false)) held c e = let same : d ≡ c = cc in ap (λ k. Some (k, false)) same

-- the code that a phase's state says to wait
says_waiting : (j : List Event) → is_legal j ≡ true → (t : Ticket) → has_ticket t (tickets j) ≡ true → says_done (state_at t (phase_of t j)) ≡ waiting_code t j
says_waiting j l t has = go (find (λ m. same_ticket t m.ticket) (waiting j)) refl
  where
    none : (p : Phase) → phase_of t j ≡ p → code_in t (waiting j) ≡ None → says_done (state_at t p) ≡ None
    none phase.Running is e = refl
    none phase.Paused is e = refl
    none (phase.Read c) is e = refl
    none (phase.Done c) is e =
        let some = end_waits t j c (unremoved j (laws j l) t has) (ended_unread (end_of t j) (last_is_pause t j) c is) in sym some ∙ e

    go : (o : Option Message) → find (λ m. same_ticket t m.ticket) (waiting j) ≡ o → says_done (state_at t (phase_of t j)) ≡ option_map (λ m. m.code) o
    go None e = none (phase_of t j) refl (ap (option_map (λ (m : Message). m.code)) e)
    go (Some m) e =
        let f = found (IsUnread j (tickets j)) (λ m. same_ticket t m.ticket) (waiting j) (laws j l).waits m e in
        ap (λ p. says_done (state_at t p)) (ap (λ u. phase_of u j) (same-is t m.ticket f.1) ∙ f.0.0)

abbrev state_by : List Event → Option Ticket → State
state_by j o = elim o [ None ↦ state.NotAdded | Some u ↦ state_at u (phase_of u j) ]

-- what a phase's state says, where the phase says what runs and what is paused
said : (j : List Event) (t : Ticket) (p : Phase) → has_ticket t (running j) ≡ is_open p → has_ticket t (paused j) ≡ is_paused p → says_done (state_at t p) ≡ waiting_code t j
    → IsStateOf j t (state_at t p)
said j t phase.Running r h w = record { named = refl; runs = rw (r, h) refl; held = sym h; waits = w; told = rw (r, h) refl }
said j t phase.Paused r h w = record { named = refl; runs = rw (r, h) refl; held = sym h; waits = w; told = rw (r, h) refl }
said j t (phase.Done c) r h w = record { named = refl; runs = rw r refl; held = sym h; waits = w; told = rw r refl }
said j t (phase.Read c) r h w = record { named = refl; runs = rw r refl; held = sym h; waits = w; told = rw r refl }

pub state_and_look_agree : StateAndLookAgree
state_and_look_agree j l h t e =
    let has : has_ticket t (tickets j) ≡ true = has_addition t h (added j) (found_any (λ a. same_handle h a.handle) t (added j) e) in
    subst (λ (o : Option Ticket). IsStateOf j t (state_by j o)) e (said j t (phase_of t j) (runs-phase j t has) (held-phase j t has) (says_waiting j l t has))
