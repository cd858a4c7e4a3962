-- How many links a gate opens to an endpoint at a time.
use Rattle.std.specs.Prelude.{ℕ, ◌+◌, ◌*◌, ◌%◌, ◌<◌, if◌then◌else◌, ◌&&◌, ◌||◌, nat_le, nat_lt, fold, Bool, true, false, List, Ok, replicate, slice_index, slice_set}
use Rattle.mx_request.specs.Endpoint.{HostAndPort, is_same_endpoint}
use Rattle.mx_gate.specs.Said.{Said, told, opened, waited}

-- how many links are opened to an endpoint at a time
abbrev pub most_new : ℕ
most_new = 4

-- a wait of so many milliseconds has been in vain, and then so many more may be opened; as they may after so many in any case
abbrev pub vain_ms : ℕ
vain_ms = 2

abbrev pub renewal_ms : ℕ
renewal_ms = 16

-- the place of an endpoint in a table of 64, which others may share
abbrev pub places : ℕ
places = 64

abbrev pub add_byte : ℕ → ℕ → ℕ
add_byte sum b = (sum * 31 + b) % 64

abbrev pub place_of : HostAndPort → ℕ
place_of e = fold add_byte (e.port % 64) e.host

-- the last moment, and that since which links are counted; whether the gate has waited since the last moment; and how many links were opened
-- to the endpoints of each place, as far as that matters
pub record Pace : Type 0 where
  pub moment : ℕ
  pub since : ℕ
  pub has_waited : Bool
  pub opened : List ℕ

abbrev pub zeros : List ℕ
zeros = replicate places 0

abbrev pub first_pace : Pace
first_pace = record { moment = 0; since = 0; has_waited = false; opened = zeros }

-- whether links are counted anew from the moment m on
abbrev pub is_renewed : Bool → ℕ → ℕ → ℕ → Bool
is_renewed has_waited moment since m = (has_waited && nat_le (moment + vain_ms) m) || nat_le (since + renewal_ms) m

-- as the clock goes on
abbrev pub passes : ℕ → Pace → Pace
passes m p =
    if is_renewed p.has_waited p.moment p.since m then record { moment = m; since = m; has_waited = false; opened = zeros }
    else record p { moment = m; has_waited = false }

-- as the gate waits
abbrev pub waits : Pace → Pace
waits p = record p { has_waited = true }

-- as a link is opened
abbrev pub one_more : ℕ → List ℕ → List ℕ
one_more place counts = if nat_lt (slice_index counts place) most_new then slice_set counts place (slice_index counts place + 1) else counts

abbrev pub opens_one : HostAndPort → Pace → Pace
opens_one e p = record p { opened = one_more (place_of e) p.opened }

-- one more link may be opened
abbrev pub allows : HostAndPort → Pace → Bool
allows e p = nat_lt (slice_index p.opened (place_of e)) most_new

-- by what a gate said
abbrev pub paces : Pace → Said → Pace
paces p (told m) = passes m p
paces p (opened e (Ok number)) = opens_one e p
paces p (waited ms stop) = waits p
paces p _ = p

abbrev pub pace_by : List Said → Pace
pace_by said = fold paces first_pace said

-- the same of the links to this endpoint alone
pub record Burst : Type 0 where
  pub moment : ℕ
  pub since : ℕ
  pub has_waited : Bool
  pub links : ℕ

abbrev pub goes_on : HostAndPort → Burst → Said → Burst
goes_on e b (told m) =
    if is_renewed b.has_waited b.moment b.since m then record { moment = m; since = m; has_waited = false; links = 0 }
    else record b { moment = m; has_waited = false }
goes_on e b (opened f (Ok number)) = record b { links = b.links + (if is_same_endpoint e f then 1 else 0) }
goes_on e b (waited ms stop) = record b { has_waited = true }
goes_on e b _ = b

abbrev pub burst_of : HostAndPort → List Said → Burst
burst_of e said = fold (goes_on e) (record { moment = 0; since = 0; has_waited = false; links = 0 }) said

-- rule gate-pace: A worker opens at most 4 connections to an endpoint, until it has waited for 2 milliseconds or 16 have passed; then 4 more. So
-- those of a server that answers sooner are used again, and a slower one soon has all that are wanted.
--
-- one more link is within the pace
abbrev pub IsPaced : Burst → Type 0
IsPaced b = b.links < most_new

-- what contracts see of a paced gate: the gate within, and all that was said
pub record PacedState (G : Type 0) : Type 0 where
  pub gate : G
  pub said : List Said
