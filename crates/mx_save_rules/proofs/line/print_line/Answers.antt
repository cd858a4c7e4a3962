use Rattle.std.proofs.KnownBytes.{Appends-trans}
use Rattle.mx_save_rules.specs.Codes.{save_number}
use Rattle.mx_save_rules.specs.Words.{verdict_word}
use Rattle.mx_save_rules.specs.Texts.{shown, file_field}
use Rattle.mx_save_rules.proofs.Printed.{then_printed, line_parts}
use Rattle.mx_save_rules.proofs.line.print_line.Goals as goal

pub returns-clause-bytes : goal.returns-clause-bytes
returns-clause-bytes g c =
    let e = c.args.end.now in
    then_printed c.print_url.result _ _ _ _ _ _
    (line_parts (verdict_word e.verdict) (save_number e.code) e.status e.length (file_field e.file) (shown e.url))
    (Appends-trans _ _ _ _ _ c.in_ok-print_front.ensures.bytes c.in_ok-print_file.ensures.bytes) c.print_url.ensures.bytes
