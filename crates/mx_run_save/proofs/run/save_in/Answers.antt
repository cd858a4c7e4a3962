use Rattle.std.proofs.Common.{◌∙◌, ap, refl, map, ◌++◌}
use Rattle.std.specs.Prelude.{option_map}
use Rattle.mx_save_book.specs.Jobs.{IsLaterLedger}
use Rattle.mx_save_book.proofs.Later.{ended_later, told_later, whole_later}
use Rattle.mx_save.proofs.Moments.{later_by}
use Rattle.mx_save_urls.specs.Feeds.{list_left}
use Rattle.mx_fetch.proofs.Lists.{on_ok}
use Rattle.mx_run_save.proofs.run.save_in.Goals as goal

pub returns-clause-all : goal.returns-clause-all
returns-clause-all g c =
    let old = c.save_all-ledger.result.ledger in
    let swept = c.sweep.new.self in
    let new = record swept { steps = g.F.Folder.steps c.finish-folder.result.0 } in
    let later : IsLaterLedger old new = record {
      start = c.sweep.ensures.start;
      flush = c.sweep.ensures.flush;
      later = later_by old.steps swept.steps new.steps c.sweep.ensures.later c.finish-folder.ensures.later;
    } in
    let given = c.new-feed.ensures ∙ ap (λ l. option_map (λ more. map (λ u. u.now) l ++ more) (list_left g.Rd.Read.remaining c.args.list)) c.as_slice.ensures.value in
    on_ok c.save_all-ledger.result.stopped
    (λ all. record {
      run = record {
        ledger = new;
        is = c.finish-folder.ensures.run;
        start = c.sweep.ensures.start ∙ c.save_all-ledger.ensures.run.folder ∙ ap (λ l. l.start) c.new-ledger.ensures;
        now = refl;
        flush = c.sweep.ensures.flush ∙ c.save_all-ledger.ensures.run.flush ∙ ap (λ l. l.flush) c.new-ledger.ensures;
        whole = whole_later old new c.sweep.ensures.entries all.ended.whole;
        none_out = c.sweep.ensures.out;
      };
      urls = all.urls;
      all = λ every is. all.all every (given ∙ is);
      ended = ended_later c.args.asking all.urls old new c.save_all-ledger.result.lines.told c.sweep.ensures.entries later all.ended;
    })
    c.save_all-ledger.ensures.all

pub returns-clause-told : goal.returns-clause-told
returns-clause-told g c =
    let old = c.save_all-ledger.result.ledger in
    let swept = c.sweep.new.self in
    let new = record swept { steps = g.F.Folder.steps c.finish-folder.result.0 } in
    let later : IsLaterLedger old new = record {
      start = c.sweep.ensures.start;
      flush = c.sweep.ensures.flush;
      later = later_by old.steps swept.steps new.steps c.sweep.ensures.later c.finish-folder.ensures.later;
    } in
    let given = c.new-feed.ensures ∙ ap (λ l. option_map (λ more. map (λ u. u.now) l ++ more) (list_left g.Rd.Read.remaining c.args.list)) c.as_slice.ensures.value in
    let t = c.save_all-ledger.ensures.told in
    record {
      run = record {
        ledger = new;
        is = c.finish-folder.ensures.run;
        start = c.sweep.ensures.start ∙ c.save_all-ledger.ensures.run.folder ∙ ap (λ l. l.start) c.new-ledger.ensures;
        now = refl;
        flush = c.sweep.ensures.flush ∙ c.save_all-ledger.ensures.run.flush ∙ ap (λ l. l.flush) c.new-ledger.ensures;
        whole = whole_later old new c.sweep.ensures.entries t.whole;
        none_out = c.sweep.ensures.out;
      };
      told = record {
        urls = t.urls;
        first = λ every is. t.first every (given ∙ is);
        told = told_later c.args.asking t.urls old new c.save_all-ledger.result.lines.told c.sweep.ensures.entries later t.told;
        whole = whole_later old new c.sweep.ensures.entries t.whole;
      };
    }
