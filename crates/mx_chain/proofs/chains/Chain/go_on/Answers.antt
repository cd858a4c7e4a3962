use Rattle.std.proofs.Common.{◌∙◌}
use Rattle.mx_chain.proofs.StepLemmas.{goes_on_released, received_released, released_unkept}
use Rattle.mx_chain.proofs.chains.Chain.go_on.Goals as goal

pub follow-requires-clause-ended : goal.follow-requires-clause-ended
follow-requires-clause-ended g c = rw c.release.ensures c.requires.ended

pub follow-requires-clause-unkept : goal.follow-requires-clause-unkept
follow-requires-clause-unkept g c = rw c.release.ensures (released_unkept c.args.self.now.now)

pub follow-requires-clause-leads : goal.follow-requires-clause-leads
follow-requires-clause-leads g c = rw c.release.ensures c.requires.leads

pub follow-requires-clause-follows : goal.follow-requires-clause-follows
follow-requires-clause-follows g c = c.in-Ok.ensures

pub follow-requires-clause-bytes : goal.follow-requires-clause-bytes
follow-requires-clause-bytes g c = rw c.release.ensures c.requires.bytes

pub follow-requires-clause-wire : goal.follow-requires-clause-wire
follow-requires-clause-wire g c = rw c.release.ensures (received_released _ ∙ c.requires.wire)

pub returns-in-Ok : goal.returns-in-Ok
returns-in-Ok g c = goes_on_released _ _ _ _ _ c.release.ensures c.follow.ensures

pub end-requires-clause-ended : goal.end-requires-clause-ended
end-requires-clause-ended g c = rw c.release.ensures c.requires.ended

pub end-requires-clause-unkept : goal.end-requires-clause-unkept
end-requires-clause-unkept g c = rw c.release.ensures (released_unkept c.args.self.now.now)

pub end-requires-clause-leads : goal.end-requires-clause-leads
end-requires-clause-leads g c = rw c.release.ensures c.requires.leads

pub end-requires-clause-cause : goal.end-requires-clause-cause
end-requires-clause-cause g c = c.in-Err.ensures

pub returns-in-Err : goal.returns-in-Err
returns-in-Err g c = goes_on_released _ _ _ _ _ c.release.ensures c.end.ensures

pub follow-requires-clause-kept : goal.follow-requires-clause-kept
follow-requires-clause-kept g c = rw c.release.ensures c.requires.kept

pub end-requires-clause-kept : goal.end-requires-clause-kept
end-requires-clause-kept g c = rw c.release.ensures c.requires.kept
