use Rattle.std.proofs.Common.{◌≡◌, length}
use Rattle.std.specs.VecDeque.{deque_len}
use Rattle.mx_multi.specs.Opening.{AreReaders}
use Rattle.mx_multi.proofs.founding.readers.Given as goal

abbrev pub invariant-loop-number : goal.invariant-loop-number
invariant-loop-number l = (l.log ≡ l.fn.log) × AreReaders l.worker 0 l.fn.log.events l.fn.log.book l.readers.items × (length l.readers.items ≡ l.number) × (deque_len l.readers ≡ l.number)
