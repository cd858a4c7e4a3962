-- Private: a reader that hands the content on, by its stream.
use Rattle.std.specs.Prelude.{◌≡◌, ℕ, ◌+◌, ◌↔◌, min, Bool, true, false, List, [], ◌++◌, length, Some}
use Rattle.mx_body.specs.declared.decoder.Stand.{Stand}
use Rattle.mx_body.specs.declared.decoder.Stand.TheVariants as stand
use Rattle.mx_flow.specs.Streams.{StreamValue, TellsKeeps}
use Rattle.mx_flow.specs.declared.stream_state.StreamState as flow
use Rattle.mx_flow.specs.declared.stream_state.StreamState.TheVariants as state
use Rattle.mx_reader.specs.Readers.{ReaderValue, IsReader, most_counted}

-- the state of a stream's bytes, as that of a decoder's
abbrev pub stand_by : flow.StreamState → Stand
stand_by state.More = stand.More
stand_by state.Whole = stand.Complete
stand_by (state.Fault c) = stand.Fault c

-- where the response ends that a stream took
abbrev pub len_by : Stand → List ℕ → ℕ
len_by stand.More wire = 0
len_by stand.Complete wire = length wire
len_by (stand.Fault c) wire = 0

-- whether the connection may serve another request, where the bytes that came have this state before the connection ends
abbrev pub KeepsBy : StreamValue → flow.StreamState → Bool → Type 0
KeepsBy s state.More keep = keep ≡ false
KeepsBy s state.Whole keep = TellsKeeps s.wire keep
KeepsBy s (state.Fault c) keep = keep ≡ false

-- what contracts see: bytes came behind those that the stream took
abbrev pub flowing : StreamValue → List ℕ → Stand → Bool → Bool → ReaderValue
flowing s behind stand ended keep = record {
  method = s.method;
  limit = Some s.limit;
  wire = s.wire ++ behind;
  ended = ended;
  kept = s.heads;
  judgement = record { stand = stand; parts = []; len = len_by stand s.wire; keep = keep; content = s.content };
}

-- as long as nothing is decided it is so of the stream, and nothing has ended
pub record GoesOn (s : StreamValue) (ended keep : Bool) : Type 0 where
  pub more : s.stand ≡ state.More
  pub unended : ended ≡ false
  pub unkept : keep ≡ false

-- What is known of it: how many bytes were fed, and whether none is behind those of the stream. There are none as long as the stream
-- takes more.
pub record IsFlowing (s : StreamValue) (behind : List ℕ) (at : Stand) (ended keep is_all : Bool) (fed : ℕ) : Type 0 where
  pub reader : IsReader (flowing s behind at ended keep)
  pub none_behind : s.stand ≡ state.More → behind ≡ []
  pub goes_on : at ≡ stand.More → GoesOn s ended keep
  pub all : (is_all ≡ true) ↔ (behind ≡ [])
  pub fed_is : fed ≡ min (length s.wire + length behind) most_counted
