use Rattle.mx_save_book.proofs.BookSteps.{can_ask, can_refuse}
use Rattle.mx_save_book.proofs.book.build.Goals as goal

pub returns-in-Ok-clause-can : goal.returns-in-Ok-clause-can
returns-in-Ok-clause-can c =
    can_ask c.args.asking.now c.args.url.now c.in-Ok.text.now c.request.result c.in-Ok.ensures.cases.1 c.in-Ok.ensures.cases.0 c.request.ensures.answer

pub returns-in-Ok-clause-refused : goal.returns-in-Ok-clause-refused
returns-in-Ok-clause-refused c =
    can_refuse c.args.asking.now c.args.url.now c.in-Ok.text.now c.request.result c.in-Ok.ensures.cases.0 c.request.ensures.answer
