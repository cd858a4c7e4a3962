-- A control state at its beginning.
use Rattle.std.proofs.Common.{◌≡◌, ℕ, ◌+◌, ◌≤◌, sym, refl, subst, List, [], length, true, arith}
use Rattle.std.specs.Prelude.{replicate}
use Rattle.std.proofs.lemmas.List.{length-replicate}
use Rattle.mx_types.specs.Limits.{IsHistory, greatest_ticket, most_handles}
use Rattle.mx_types.specs.Origin.{no_request}
use Rattle.mx_types.specs.declared.code.Code.{Code}
use Rattle.mx_types.specs.declared.event.Event.{Event}
use Rattle.mx_types.specs.declared.event.Who.{Who}
use Rattle.mx_types.specs.declared.names.Ticket.{Ticket}
use Rattle.mx_types.specs.declared.origin.Origin.{Origin}
use Rattle.mx_history.specs.History.{is_maker}
use Rattle.mx_history.specs.Table.{Counts, TableView, IsTableOf, HasCounters, count_of, empty_table}
use Rattle.mx_journal.specs.Core.{IsBegun, IsControl, IsTabled, KeepsOrigins, OriginList}

pub tabled_begun : (history : ℕ) (j : List Event) (t : TableView) (space : ℕ) → j ≡ [] → IsTableOf [] t → t ≡ empty_table → history ≤ space → IsTabled history j t space
tabled_begun history j t space e table is fits =
    rw e (record { table = table; sized = subst (λ (x : TableView). HasCounters x.makers) (sym is) (refl, refl); fits = fits })

pub control_begun : {Q O : Type 0} (code : O → Code) (size : O → ℕ) (history : ℕ) (j : List Event) (queue : List (Ticket × Q)) (endings : List (Ticket × O)) (cq ce : ℕ)
    → j ≡ [] → queue ≡ [] → endings ≡ [] → IsHistory history → most_handles ≤ cq → most_handles ≤ ce → IsControl code size history j queue endings cq ce
control_begun code size history j queue endings cq ce e q d h fq fe =
    rw (e, q, d)
    (record {
      sound = record { kept = record { legal = refl; room = omega (arith, h.0); limit = h.1 }; ordered = tt; runs = tt; waits = refl };
      queue_fits = fq;
      endings_fit = fe;
    })

pub begun_begun : (history first : ℕ) (j : List Event) (before : Counts) → j ≡ [] → first ≤ greatest_ticket + 1 → ((w : Who) → is_maker w ≡ true → count_of w before ≡ 0)
    → IsBegun (record { history = history; first = first; from = 0 }) j before
begun_begun history first j before e few none = rw e (record { first = few; given = omega arith; begun = omega arith; makers = none })

pub origins_begun : {Q : Type 0} (origin : Q → Origin) (history first : ℕ) (j : List Event) (origins : OriginList) (queue : List (Ticket × Q)) → j ≡ []
    → origins ≡ record { begun = first; all = replicate first no_request } → queue ≡ [] → KeepsOrigins origin (record { history = history; first = first; from = 0 }) j origins queue
origins_begun origin history first j origins queue e o q =
    let long : length (replicate first no_request) ≡ first = length-replicate first no_request in
    rw (e, o, q) (record { each = omega (arith, long); own = tt; begins = omega (arith, long); since = tt })
