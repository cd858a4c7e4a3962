use Rattle.std.proofs.Common.{◌≡◌, ◌+◌, length}
use Rattle.std.specs.Prelude.{vec_capacity, vec_len}
use Rattle.std.specs.List.{All}
use Rattle.std.specs.VecDeque.{deque_len}
use Rattle.crossbeam_channel.specs.Claims.{view}
use Rattle.mx_board.specs.Progress.{NoteState, new_seat}
use Rattle.mx_lock.specs.Lock.{IsKeyOf, engine_of, founder_at, known_of}
use Rattle.mx_multi.specs.Opening.{first_of, AreNew, AreReaders}
use Rattle.mx_multi.proofs.founding.seated.Given as goal

abbrev pub invariant-loop-reader : goal.invariant-loop-reader
invariant-loop-reader g l = record {
  own : IsKeyOf l.lock l.founder;
  founder : view l.founder ≡ founder_at (known_of (view l.fn.founder)) (first_of l.worker + vec_len l.seats);
  new : AreNew (record { table = l.lock.table; keys = l.lock.keys; engine = engine_of (view l.fn.founder); words = l.words.id; limits = l.limits }) (view l.fn.founder).seen l.ties.entries l.worker 0 l.seats.items;
  readers : AreReaders l.worker (vec_len l.seats) (view l.fn.founder).seen (engine_of (view l.fn.founder)).book l.readers.items;
  made : length l.seats.items ≡ vec_len l.seats;
  room : vec_capacity l.seats ≡ vec_capacity l.fn.places;
  notes : All (λ (s : NoteState). s ≡ new_seat l.words) l.notes.items;
  left : vec_len l.notes + vec_len l.seats ≡ vec_len l.fn.notes;
  all : vec_len l.seats + deque_len l.readers ≡ deque_len l.fn.readers;
}

abbrev pub decreases-loop-reader : goal.decreases-loop-reader
decreases-loop-reader g l = deque_len l.readers
