use Rattle.std.proofs.Common.{true, false, map, sym, ap, ◌∙◌}
use Rattle.mx_types.specs.Settings.{field_of}
use Rattle.mx_request.proofs.SettingsLemmas.{are_fields-pairs}
use Rattle.mx_request.proofs.fields.are_fields.Goals as goal

pub returns-then-are_extra_fields : goal.returns-then-are_extra_fields
returns-then-are_extra_fields c =
    c.is_user_agent.ensures
    ∙ sym (are_fields-pairs c.args.settings.now c.as_slice.result.now c.settings.inside.user_agent true (ap (λ s. s.fields) (sym c.settings.view_is) ∙ ap (map field_of) (sym c.as_slice.ensures.value)) (ap (λ s. s.user_agent) (sym c.settings.view_is)) (sym c.if-are_extra_fields.true ∙ c.are_extra_fields.ensures))

pub returns-else-are_extra_fields : goal.returns-else-are_extra_fields
returns-else-are_extra_fields c =
    c.if-are_extra_fields.false
    ∙ sym (are_fields-pairs c.args.settings.now c.as_slice.result.now c.settings.inside.user_agent false (ap (λ s. s.fields) (sym c.settings.view_is) ∙ ap (map field_of) (sym c.as_slice.ensures.value)) (ap (λ s. s.user_agent) (sym c.settings.view_is)) (sym c.if-are_extra_fields.false ∙ c.are_extra_fields.ensures))
