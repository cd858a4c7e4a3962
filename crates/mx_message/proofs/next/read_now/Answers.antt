use Rattle.mx_message.proofs.Messages.{found_none, read_is, unread_lacks, unread_same}
use Rattle.mx_message.proofs.next.read_now.Goals as goal

pub returns-in-Message-clause-read : goal.returns-in-Message-clause-read
returns-in-Message-clause-read g c =
    (c.code-code.ensures.code, read_is _ _ _ _ _ _ _ c.in-Message.is c.in-Ok.ensures.stands c.in-Ok.ensures.tells c.know.ensures.end c.know.ensures.body)

pub returns-in-Empty-clause-read : goal.returns-in-Empty-clause-read
returns-in-Empty-clause-read g c = found_none _ _ c.in-Ok.reply c.in-Empty.is c.in-Ok.ensures.stands

pub returns-in_default-clause-unread : goal.returns-in_default-clause-unread
returns-in_default-clause-unread g c = unread_same _ _ c.in_default.ensures.stands

pub returns-in-OutOfMemory-clause-unread : goal.returns-in-OutOfMemory-clause-unread
returns-in-OutOfMemory-clause-unread g c = unread_lacks _ _ c.in-Ok.reply c.in-OutOfMemory.is c.in-Ok.ensures.stands
