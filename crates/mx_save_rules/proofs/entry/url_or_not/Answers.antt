use Rattle.std.proofs.Common.{ap, ◌∙◌}
use Rattle.std.proofs.lemmas.Str.{is_utf8-from_IsUtf8}
use Rattle.mx_save_rules.specs.Entries.{url, not_text}
use Rattle.mx_save_rules.proofs.OpenLines.{not_utf8}
use Rattle.mx_save_rules.proofs.entry.url_or_not.Goals as goal

pub returns-in_ok-from_str-in-Ok : goal.returns-in_ok-from_str-in-Ok
returns-in_ok-from_str-in-Ok c =
    let is = is_utf8-from_IsUtf8 c.args.text.now c.in-Ok.ensures.cases.1 in
    rw is (ap url (c.in_ok-from_str-in-Ok.ensures.ok ∙ c.in-Ok.ensures.cases.0))

pub returns-in_ok-from_slice-in-Err : goal.returns-in_ok-from_slice-in-Err
returns-in_ok-from_slice-in-Err c =
    let isnt = not_utf8 c.args.text.now c.in-Err.ensures.cases.0 in rw isnt (ap not_text c.in_ok-from_slice-in-Err.ensures.items)
