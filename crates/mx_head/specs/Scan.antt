-- A scan of the bytes of a head, one after another: where in the grammar of `httparse` they lead.
use Rattle.std.specs.Prelude.{◌≡◌, ℕ, ◌+◌, ◌≤◌, Bool, true, false, ◌&&◌, ◌||◌, not, List, length, take, fold, if◌then◌else◌, ◌==◌, nat_lt, codes, slice_index}
use Rattle.std.specs.Char.{is_ascii_digit}
use Rattle.httparse.specs.Ascii.{line_feed, carriage_return, space, colon}
use Rattle.httparse.specs.Grammar.{is_token_byte, is_value_byte}
use Rattle.mx_head.specs.declared.scan.Spot.{Spot}
use Rattle.mx_head.specs.declared.scan.Spot.TheVariants.{Blank, BlankReturn, Opening, Code, Text, Return, Line, Name, LastReturn, Settled}
use Rattle.mx_head.specs.declared.scan.Reached.{Reached}
use Rattle.mx_head.specs.declared.scan.HeadScan.{HeadScan}
use Rattle.mx_head.specs.Limits.{most_fields}

-- the byte is allowed at that place of the version and the code, which are `HTTP/1.` and a digit, SP, and three digits
abbrev pub fits_opening : ℕ → ℕ → Bool
fits_opening at b =
    if nat_lt at 7 then b == slice_index (codes "HTTP/1.") at
    else (if at == 7 then b == 48 || b == 49
    else (if at == 8 then b == space else is_ascii_digit b))

abbrev pub in_opening : ℕ → ℕ → Spot
in_opening at b = if fits_opening at b then (if nat_lt at 11 then Opening (at + 1) else Code) else Settled

-- after a byte that ends a line with some text
abbrev pub line_end : ℕ → Spot
line_end b = if b == carriage_return then Return else (if b == line_feed then Line else Settled)

-- after a byte that begins no field line
abbrev pub step : Spot → ℕ → Spot
step Blank b = if b == carriage_return then BlankReturn else (if b == line_feed then Blank else in_opening 0 b)
step BlankReturn b = if b == line_feed then Blank else Settled
step (Opening at) b = in_opening at b
step Code b = if b == space then Text else line_end b
step Text b = if is_value_byte b then Text else line_end b
step Return b = if b == line_feed then Line else Settled
step Line b = if b == carriage_return then LastReturn else Settled
step Name b = if is_token_byte b then Name else (if b == colon then Text else Settled)
step LastReturn b = Settled
step Settled b = Settled

abbrev pub is_line : Spot → Bool
is_line Line = true
is_line _ = false

abbrev pub reached : Spot → ℕ → Reached
reached spot fields = record { spot = spot; fields = fields }

-- after a byte
abbrev pub after : Reached → ℕ → Reached
after r b =
    if is_line r.spot && nat_lt r.fields most_fields && is_token_byte b then reached Name (r.fields + 1)
    else reached (step r.spot b) r.fields

abbrev pub start : Reached
start = reached Blank 0

-- after some bytes
abbrev pub after_all : List ℕ → Reached
after_all bytes = fold after start bytes

abbrev pub is_settled : Spot → Bool
is_settled Settled = true
is_settled _ = false

-- nothing has settled the bytes seen
abbrev pub is_open : HeadScan → Bool
is_open scan = not (is_settled scan.reached.spot)

-- the first bytes of the text led the scan where it is
pub record HasScanned (text : List ℕ) (scan : HeadScan) : Type 0 where
  pub within : scan.read ≤ length text
  pub there : after_all (take scan.read text) ≡ scan.reached
