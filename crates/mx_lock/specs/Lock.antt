-- The rule of the lock, over its content and what each key knows.
use Rattle.std.specs.Prelude.{◌≡◌, ◌≢◌, ℕ, zero, suc, ◌+◌, ◌-◌, ◌≤◌, nat_lt, if◌then◌else◌, true, false, not, List, [], ◌∷◌, ◌++◌, length}
use Rattle.std.specs.List.{filter}
use mathlib.Core.Option.{some}
use mathlib.Core.List.{IsPrefix}
use lib.ListN.{get_elem?}
use Rattle.atomic_table.specs.Seated.{TableId}
use Rattle.logbook.specs.Pages.{Book}
use Rattle.atomic_table.specs.declared.badge.Badge.{Badge}
use Rattle.crossbeam_channel.specs.declared.flavors.array.Key.{Key}
use Rattle.crossbeam_channel.specs.Claims.{Pass}
use Rattle.mx_types.specs.Limits.{most_seats}
use Rattle.mx_types.specs.declared.event.Who.{Who}
use Rattle.mx_types.specs.declared.event.Who.TheVariants as who
use Rattle.mx_types.specs.declared.names.Ticket.{Ticket}
use Rattle.mx_journal.specs.History.{has_ticket, made_by}
use Rattle.mx_types.specs.declared.code.Code.{Code}
use Rattle.mx_lock.specs.Engine.{EngineId, EngineState, Content, IsLocked, content}
use Rattle.mx_lock.specs.declared.key_view.KeyView.{KeyView}
use Rattle.mx_lock.specs.declared.key_view.BookName.{BookName}
use Rattle.mx_lock.specs.declared.key_view.EngineName.{EngineName}

-- which lock it is: the table of its keys, and what they have in common
pub record LockView (X : Type 0) : Type 0 where
  pub table : TableId
  pub keys : Badge (Key X)

-- the key is one of the lock's
abbrev pub IsKeyOf : {X : Type 0} → LockView X → Pass X KeyView → Type 0
IsKeyOf l k = (k.table_id ≡ l.table) × (k.me.0.of ≡ l.keys) × (k.me.1 ≡ [])

-- the maker whose key has the number: the opening key's is no seat's, then come the seats, then the workers
abbrev pub maker : ℕ → Who
maker zero = who.Seat most_seats
maker (suc k) = if nat_lt k most_seats then who.Seat k else who.Worker (k - most_seats)

abbrev pub book_name : Book → BookName
book_name b = record { number = b.number; log_name = b.log_name; cells_name = b.cells_name }

abbrev pub book_named : BookName → Book
book_named n = record { number = n.number; log_name = n.log_name; cells_name = n.cells_name }

abbrev pub no_book : BookName
no_book = record { number = 0; log_name = 0; cells_name = 0 }

abbrev pub name_of : EngineId → EngineName
name_of e = record { journal = book_name e.book; ties = book_name e.ties; history = e.opening.history; first = e.opening.first; from = e.opening.from }

abbrev pub named : EngineName → EngineId
named n = record { book = book_named n.journal; opening = record { history = n.history; first = n.first; from = n.from }; ties = book_named n.ties }

abbrev pub engine_of : KeyView → EngineId
engine_of v = named v.engine

abbrev pub no_name : EngineName
no_name = record { journal = no_book; ties = no_book; history = 0; first = 0; from = 0 }

abbrev pub first_key : KeyView
first_key = record { number = 0; next = 1; told = false; engine = no_name; holding = true; held = []; found = []; seen = []; claims = [] }

-- of n keys the one at number j: the journal begins with what it left last, and has no event more of its maker
pub record Agrees (c : Content) (n j : ℕ) (v : KeyView) : Type 0 where
  pub number : v.number ≡ j
  pub later : IsPrefix v.seen c.journal
  pub own : made_by (maker j) c.journal ≡ made_by (maker j) v.seen
  pub next : v.next ≢ 0 → (v.next ≡ n) × (j ≡ 0)
  pub engine : v.told ≡ true → engine_of v ≡ c.engine
  pub alone : v.told ≡ false → n ≡ 1

-- of the tickets `after` those that aren't among `before`
abbrev pub newly : List Ticket → List Ticket → List Ticket
newly before after = filter (λ t. not (has_ticket t before)) after

-- each ticket that is claimed, some key has claimed
abbrev pub IsOwned : List Ticket → List KeyView → Type 0
IsOwned claimed views = (t : Ticket) → has_ticket t claimed ≡ true → (j : ℕ) × (u : KeyView) × (get_elem? views j ≡ some u) × (has_ticket t u.claims ≡ true)

-- what a maker that has no key made, each key has seen
abbrev pub HasSeenAll : List KeyView → Content → Type 0
HasSeenAll views c = (k : ℕ) → length views ≤ k → (j : ℕ) (v : KeyView) → get_elem? views j ≡ some v → made_by (maker k) c.journal ≡ made_by (maker k) v.seen

module _ {X : Type 0} (content : X → Content) where
  -- one key holds the engine, with the journal that it found; or the engine is in the lock
  abbrev pub Lies : Content → List X → List KeyView → Type 0
  Lies c [] views = (k : ℕ) × (v : KeyView) × (get_elem? views k ≡ some v) × (v.holding ≡ true) × (v.held ≡ c.journal) × (v.found ≡ c.claimed) × ((j : ℕ) (u : KeyView) → get_elem? views j ≡ some u → u.holding ≡ true → j ≡ k)
  Lies c (x ∷ rest) views = (rest ≡ []) × (content x ≡ c) × ((j : ℕ) (u : KeyView) → get_elem? views j ≡ some u → u.holding ≡ false)

  -- there is one engine with one journal; what a maker that has no key made, each key has seen; and what runs and isn't queued a key has
  -- claimed
  abbrev pub Keeps : List X → List KeyView → Type 0
  Keeps items views = (c : Content) × Lies c items views × ((j : ℕ) (v : KeyView) → get_elem? views j ≡ some v → Agrees c (length views) j v) × HasSeenAll views c × IsOwned c.claimed views

  -- what is taken: a journal that begins with what the key left last, and has no event more of its maker
  pub record Took (v : KeyView) (x : X) (w : KeyView) : Type 0 where
    pub later : IsPrefix v.seen (content x).journal
    pub own : made_by (maker v.number) (content x).journal ≡ made_by (maker v.number) v.seen
    pub engine : engine_of v ≡ (content x).engine
    pub is : w ≡ record v { holding = true; held = (content x).journal; found = (content x).claimed }

-- what the key found in its lock: its engine, with no event more of the key's maker than it had left
pub record IsFoundBy {Q O : Type 0} (code : O → Code) (size : O → ℕ) (v : KeyView) (x : EngineState Q O) : Type 0 where
  pub engine : (content x).engine ≡ engine_of v
  pub locked : IsLocked code size x
  pub own : made_by (maker v.number) x.core.journal ≡ made_by (maker v.number) v.seen

-- the key after it gave the engine back: it has seen the journal, and what is claimed now and wasn't when it took the engine, it has
-- claimed
abbrev pub given : KeyView → Content → KeyView
given v c = record v { holding = false; held = []; found = []; seen = c.journal; claims = v.claims ++ newly v.found c.claimed }

-- the key after it put the engine back as it was found
abbrev pub released : KeyView → KeyView
released v = record v { holding = false; held = []; found = [] }

-- the opening key, which makes the others, once it has put the engine in: it has seen the journal that it put in, and the claims there are
-- its; the next key gets the number n
abbrev pub founder_at : Content → ℕ → KeyView
founder_at c n = record { number = 0; next = n; told = true; engine = name_of c.engine; holding = false; held = []; found = []; seen = c.journal; claims = c.claimed }

abbrev pub founded : Content → KeyView
founded c = founder_at c 1

-- what a key knows of the engine
abbrev pub known_of : KeyView → Content
known_of v = record { journal = v.seen; engine = engine_of v; claimed = v.claims }

abbrev pub parent : KeyView → KeyView
parent v = record v { next = v.next + 1 }

-- a new key has seen what its parent has seen
abbrev pub child : KeyView → KeyView
child v = record { number = v.next; next = 0; told = v.told; engine = v.engine; holding = false; held = []; found = []; seen = v.seen; claims = [] }
