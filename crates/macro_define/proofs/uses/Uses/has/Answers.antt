-- The one text that can be of this macro is that which stands where the table says.
use Rattle.std.proofs.Common.{◌≡◌, ◌==◌, sym, ◌∙◌, ap, subst, refl, List, length, Some, None, slice_get}
use Rattle.std.specs.List.{list_any}
use Rattle.std.proofs.lemmas.Option.{slice_get_past, slice_get_read}
use Rattle.macro_define.specs.declared.uses.Use.{Use}
use Rattle.macro_define.proofs.PlacedLemmas.{found, lost}
use Rattle.macro_define.proofs.uses.Uses.has.Goals as goal

pub returns-in_default : goal.returns-in_default
returns-in_default c =
    let us = c.self.inside.stack.items in
    let is = lost us c.self.inside.places c.self.invariant c.args.number (λ i table. absurd (let clash : None ≡ Some i = c.in_default.ensures.value ∙ table in cc)) in
    sym is ∙ ap (list_any (λ (u : Use). u.number == c.args.number)) c.self.view_is

pub returns-in-Some-get : goal.returns-in-Some-get
returns-in-Some-get c =
    let us = c.self.inside.stack.items in
    let seen = c.deref.result.now in
    let is_at = c.in-Some-get.ensures.lookup in
    let at : slice_get seen c.in-Some.place.now ≡ Some c.in-Some-get.other.now = slice_get_read seen (length seen) c.in-Some.place.now c.in-Some-get.other.now refl is_at.3.0 is_at.1 in
    let here : slice_get us c.in-Some.place.now ≡ Some c.in-Some-get.other.now = subst (λ vs. slice_get vs c.in-Some.place.now ≡ Some c.in-Some-get.other.now) c.deref.ensures.value at in
    let is = found us c.self.inside.places c.self.invariant c.args.number c.in-Some.place.now c.in-Some-get.other.now (sym c.in-Some.ensures.value) here in
    sym is ∙ ap (list_any (λ (u : Use). u.number == c.args.number)) c.self.view_is

pub returns-in-None : goal.returns-in-None
returns-in-None c =
    let us = c.self.inside.stack.items in
    let seen = c.deref.result.now in
    let at : slice_get seen c.in-Some.place.now ≡ None = slice_get_past seen c.in-Some.place.now c.in-None.ensures.lookup.3 in
    let here : slice_get us c.in-Some.place.now ≡ None = subst (λ (vs : List Use). slice_get vs c.in-Some.place.now ≡ None) c.deref.ensures.value at in
    let is = lost us c.self.inside.places c.self.invariant c.args.number
    (λ i table. let same : c.in-Some.place.now ≡ i = (let e : Some c.in-Some.place.now ≡ Some i = c.in-Some.ensures.value ∙ table in cc) in subst (λ k. slice_get us k ≡ None) same here) in
    sym is ∙ ap (list_any (λ (u : Use). u.number == c.args.number)) c.self.view_is
