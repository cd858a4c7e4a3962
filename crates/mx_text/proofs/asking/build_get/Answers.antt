use Rattle.std.proofs.Common.{ap, ◌∙◌}
use Rattle.mx_types.specs.Settings.{SettingsValue}
use Rattle.mx_text.proofs.Building.{built}
use Rattle.mx_text.proofs.asking.build_get.Goals as goal

pub returns : goal.returns
returns c =
    built c.args.timeout_ms c.args.max_redirects c.args.url.now _ c.build.result
    (ap {A = SettingsValue} (λ s. record s { timeout_ms = c.args.timeout_ms; max_redirects = c.args.max_redirects }) (c.settings.view_is ∙ c.new-settings.ensures))
    c.build.ensures.answer
