-- What a player of `mxfetch play` says to a call and to a retiring, and what it then has. It calls as seat 0, claims each addition at
-- once, and keeps the claim until its end comes.
use Rattle.std.specs.Prelude.{ℕ, ◌==◌, if◌then◌else◌, List, [], ◌∷◌, ◌++◌, length, map, IsSome}
use Rattle.std.specs.Option.{option_to_list}
use Rattle.mx_types.specs.declared.names.Ticket.{Ticket}
use Rattle.mx_types.specs.declared.event.Who.TheVariants as maker
use Rattle.mx_types.specs.declared.event.Event.{Event}
use Rattle.mx_types.specs.declared.call.Call.{Call}
use Rattle.mx_types.specs.declared.call.Call.TheVariants as call
use Rattle.mx_types.specs.declared.reply.Reply.{Reply}
use Rattle.mx_types.specs.declared.reply.Reply.TheVariants as reply
use Rattle.mx_journal.specs.History.{Opening, same_ticket, has_ticket, retire}
use Rattle.mx_journal.specs.Answers.{answer, is_ready, next_ticket}
use Rattle.mx_run_local.specs.Texts.{Said, replied, unclaimed, waits, retired, claim_out}

-- the core's opening and journal, the tickets of the claims that are kept, and the mark of the next poll
pub record PlayerView : Type 0 where
  pub opening : Opening
  pub journal : List Event
  pub claims : List Ticket
  pub mark : ℕ

abbrev pub reply_to : PlayerView → Call → Reply
reply_to p c = (answer p.opening p.journal c).0

-- the journal with the event of the call, if it makes one
abbrev pub journal_past : PlayerView → Call → List Event
journal_past p c = p.journal ++ map (λ e. record { who = maker.Seat 0; what = e }) (option_to_list (answer p.opening p.journal c).1)

abbrev pub past : PlayerView → Call → PlayerView
past p c = record p { journal = journal_past p c }

-- the claims with that of an addition
abbrev pub with_claim : Reply → List Ticket → List Ticket
with_claim (reply.Added t) claims = claims ++ t ∷ []
with_claim _ claims = claims

-- the claims without the first one on the ticket
abbrev pub without_claim : Ticket → List Ticket → List Ticket
without_claim t [] = []
without_claim t (u ∷ claims) = (if same_ticket t u then claims else u ∷ without_claim t claims)

-- rule play-claims: `play` claims each addition at once, and keeps the claim until its end comes: the end of any other ticket is
-- `no-claim`, that of a removed addition `stale`.
abbrev pub says : PlayerView → Call → Said
says p call.Poll = (if is_ready p.mark p.journal then replied reply.Woken else waits)
says p (call.Finish t c n) = (if has_ticket t p.claims then replied (reply_to p (call.Finish t c n)) else unclaimed)
says p c = replied (reply_to p c)

abbrev pub player_past : PlayerView → Call → PlayerView
player_past p call.Poll = (if is_ready p.mark p.journal then record p { mark = length p.journal } else p)
player_past p (call.Finish t c n) =
    (if has_ticket t p.claims then record (past p (call.Finish t c n)) { claims = without_claim t p.claims } else p)
player_past p (call.Add h) = record (past p (call.Add h)) { claims = with_claim (reply_to p (call.Add h)) p.claims }
player_past p c = past p c

-- the player with old history retired: what is kept counts as older history, the next ticket stays the one that it was, and the next poll
-- looks at what comes after
abbrev pub player_retired : PlayerView → PlayerView
player_retired p = record p {
  opening = record { history = p.opening.history; first = (next_ticket p.opening p.journal).0; from = length (retire p.journal) };
  journal = retire p.journal;
  mark = length (retire p.journal);
}

-- old history is retired where no claim is kept
abbrev pub says_retiring : PlayerView → Said
says_retiring p = (if length p.claims == 0 then retired (length (retire p.journal)) else claim_out)

abbrev pub past_retiring : PlayerView → PlayerView
past_retiring p = (if length p.claims == 0 then player_retired p else p)

-- the answer of the call has an event
abbrev pub MakesEvent : PlayerView → Call → Type 0
MakesEvent p c = IsSome (answer p.opening p.journal c).1
