use Rattle.std.proofs.Common.{◌≡◌, false}
use Rattle.mx_save_urls.specs.Works.{AreBroughtOn, IsSameWork}
use Rattle.mx_save_urls.specs.Asked.{AreAsked}
use Rattle.mx_save_urls.proofs.turns.await_some.Given as goal

abbrev pub invariant-loop : goal.invariant-loop
invariant-loop g l = record {
  all : AreAsked l.work.book.asking l.work.book.slots (g.K.Requests.asked l.desk);
  waits : AreBroughtOn l.work.book.slots l.work.waiting;
  going : l.work.book.is_stopped ≡ false;
  run : IsSameWork l.fn.work l.work;
}
