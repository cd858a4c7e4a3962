use Rattle.std.proofs.Common.{◌≡◌, ◌∙◌, [], ◌∷◌, ◌++◌, ap, rules}
use Rattle.std.specs.Prelude.{drop}
use Rattle.std.specs.Mem.{manually_drop_value}
use Rattle.mx_board.specs.Published.{operation}
use Rattle.mx_board.proofs.Appending.{appended, breaks}
use Rattle.mx_board.proofs.writer.BoardWriterLog.append.Goals as goal

pub invariant_of-self-then-try_add : goal.invariant_of-self-then-try_add
invariant_of-self-then-try_add c =
    let w = manually_drop_value c.self.inside.writer in
    let none : drop w.behind w.log.items ≡ [] = search rules in
    let desk : c.queue.new.writer.desk ≡ w.desk = rw c.deref_mut.ensures.value at c.queue.ensures.desk in
    let waits = rw c.deref_mut.ensures.value at c.if-not-queue.ensures.waits in
    let pending : drop c.queue.new.writer.behind c.queue.new.writer.log.items ≡ operation c.args.event c.self.inside.journal ∷ [] =
    waits ∙ ap (λ xs. xs ++ operation c.args.event c.self.inside.journal ∷ []) none in
    let grown = c.if-try_add.ensures in
    rw (desk, pending, c.if-self.false)
    (appended w.desk.shown.value _ c.self.inside.journal c.try_add.new.self c.args.event (rw (none, c.if-self.false) at c.self.invariant) (rw c.len.ensures at c.if-len-ge-MOST_EVENTS.false) grown.0 grown.1)

pub invariant_of-self : goal.invariant_of-self
invariant_of-self c =
    let w = manually_drop_value c.self.inside.writer in
    let desk : c.queue.new.writer.desk ≡ w.desk = rw c.deref_mut.ensures.value at c.queue.ensures.desk in
    let waits : drop c.queue.new.writer.behind c.queue.new.writer.log.items ≡ drop w.behind w.log.items = rw c.deref_mut.ensures.value at c.if-not-queue.ensures.waits in
    rw (desk, waits) c.self.invariant

pub invariant_of-self-2 : goal.invariant_of-self-2
invariant_of-self-2 c =
    let w = manually_drop_value c.self.inside.writer in
    let none : drop w.behind w.log.items ≡ [] = search rules in
    let desk : c.queue.new.writer.desk ≡ w.desk = rw c.deref_mut.ensures.value at c.queue.ensures.desk in
    rw (desk, c.if-try_add.ensures) (breaks w.desk.shown.value _ _ c.self.inside.journal (rw (none, c.if-self.false) at c.self.invariant))
