use Rattle.std.proofs.Common.{◌+◌, ◌<◌, ◌^◌}
use Rattle.mx_save_book.proofs.Books.{next_fits}
use Rattle.mx_save_book.proofs.book.one_more.Goals as goal

pub returns : goal.returns
returns c = next_fits (λ m. m < 2 ^ 64) (c.args.count + 1) c.checked_add.result c.checked_add.ensures
