-- Why `presets` reads the parts of a DATA.
use Rattle.std.proofs.Common.{refl, sym, ◌∙◌, map}
use Rattle.f66_tree.specs.Views.{preset_of}
use Rattle.rat_parse_table.specs.declared.table.Production.TheVariants as productions
use Rattle.rat_parse_values.specs.Parts.{as_presets}
use Rattle.descent.specs.Reading.{done, next}
use Rattle.rat_descent.proofs.Productions.{production, otherwise, lengthens_nothing, lengthens_more, viewed_more}
use Rattle.rat_descent.proofs.ListItems.{behind_first}
use Rattle.rat_descent.proofs.aliases.presets.Goals as goal

pub returns-then-not-is_at : goal.returns-then-not-is_at
returns-then-not-is_at c =
    let rest = c.more.invariant (map preset_of c.more.list.items) c.more.reader
    (lengthens_nothing productions.NoMorePreset as_presets refl refl refl (otherwise _ _ _ (sym c.is_at.ensures ∙ c.if-not-is_at.true))) in
    record {
      first = _;
      others = _;
      middle = _;
      reads_first = c.in_ok-preset.ensures;
      reads_others = rest.reads;
      is = behind_first preset_of c.in_ok-preset.field-0 c.new-list.ensures.items c.in_ok-push.ensures.items rest.is;
    }

pub more-preserved : goal.more-preserved
more-preserved c = λ all s more. c.more.invariant all s
    (lengthens_more as_presets (map preset_of c.more.list.items) {v = more.value}
    (production productions.MorePreset refl refl refl refl (next c.in_ok-take_token.ensures (next c.in_ok-preset-2.ensures (next more.reads done))))
    refl (viewed_more preset_of c.more.list.items c.in_ok-preset-2.field-0 c.in_ok-push-2.ensures.items) more.is)
