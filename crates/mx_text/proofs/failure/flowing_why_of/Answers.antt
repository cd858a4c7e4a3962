use Rattle.std.proofs.Common.{◌∙◌, inl, sym}
use Rattle.mx_text.proofs.Reasons.{large_tells_none}
use Rattle.mx_text.proofs.failure.flowing_why_of.Goals as goal

pub returns-in-FilesizeExceeded : goal.returns-in-FilesizeExceeded
returns-in-FilesizeExceeded g c = inl (large_tells_none _ c.know_end.ensures.end (sym c.code-code.ensures.code ∙ c.in-FilesizeExceeded.is))
