use Rattle.std.proofs.Common.{◌++◌, codes, decimal, take}
use Rattle.std.specs.List.{flat_map}
use Rattle.mx_run_io.specs.Ends.{Wrote}
use Rattle.mx_types.specs.declared.names.HandleId.{HandleId}
use Rattle.mx_run_local.proofs.text.write_handles.Given as goal

abbrev pub invariant-loop-handle : goal.invariant-loop-handle
invariant-loop-handle g l =
    Wrote g.W.Write.contents l.fn.output l.output
    (codes "handles" ++ flat_map (λ (h : HandleId). codes " " ++ decimal h.0) (take l.handle-index l.handle-items))
