use Rattle.std.proofs.Common.{false, [], ◌++◌, sym, ap, ◌∙◌}
use Rattle.mx_save_rules.specs.Entries.{entry_of_front, entries_from}
use Rattle.mx_save_rules.specs.Left.{then}
use Rattle.mx_save_rules.proofs.OpenLines.{line_ended, line_last, nothing_left}
use Rattle.mx_save_rules.proofs.open_line.OpenLine.end.Goals as goal

pub returns-clause-next : goal.returns-clause-next
returns-clause-next c = λ rest.
    let s = c.args.self.now in
    let tells = c.in_ok-said.ensures ∙ ap (entry_of_front s.is_first) c.as_slice.ensures.value in
    line_ended s.is_first s.bytes.items rest c.in_ok-said.said s.unended s.short tells
    ∙ ap (λ bytes. then c.in_ok-said.said (entries_from false (bytes ++ rest))) (sym c.clear.ensures.items)

pub returns-clause-last : goal.returns-clause-last
returns-clause-last c =
    let s = c.args.self.now in
    let tells = c.in_ok-said.ensures ∙ ap (entry_of_front s.is_first) c.as_slice.ensures.value in
    line_last s.is_first s.bytes.items c.in_ok-said.said s.unended s.short tells

pub returns-clause-empty : goal.returns-clause-empty
returns-clause-empty c = ap (λ bytes. entries_from false (bytes ++ [])) c.clear.ensures.items ∙ nothing_left
