use Rattle.std.proofs.Common.{inl, inr}
use Rattle.mx_save_urls.specs.Feeds.{list_left}
use Rattle.mx_run_save.proofs.Runs.{none_listed, out_of_memory}
use Rattle.mx_run_save.proofs.run.save_aloud.Goals as goal

pub returns-in-Ok : goal.returns-in-Ok
returns-in-Ok g c = inr (record {
  asking = c.args.asking;
  asked = c.requires.asked;
  listed = list_left g.Rd.Read.remaining c.args.list;
  unlisted = none_listed g.Rd.Read.remaining c.args.list c.args.save.now.input c.requires.listed;
  new = g.F.Folder.steps c.save_in-saved.result.folder;
  told = c.save_in-saved.result.lines.told;
  stopped = c.save_in-saved.result.stopped;
  flushed = c.save_in-saved.result.flushed;
  saves = c.save_in-saved.ensures.all;
  ends = record {
    early = c.end.ensures.stopped;
    failed = c.end.ensures.failed;
    unflushed = c.end.ensures.unflushed;
    well = c.end.ensures.well;
  };
})

pub returns-in-Err : goal.returns-in-Err
returns-in-Err g c = inl (out_of_memory c.args.save.now c.end_unbegun.result c.end_unbegun.ensures.any c.end_unbegun.ensures.lines)
