-- A call that leads to a function is no CALL.
use Rattle.std.proofs.Common.{◌∙◌, ◌&&◌, Bool, not, ap, sym}
use Rattle.f66_tree.specs.Units.{kind_of}
use Rattle.f66_tree.specs.Views.{header_of}
use Rattle.f66_program.specs.Calls.{same_kind}
use Rattle.linker.specs.SiteViews.{call_of}
use Rattle.linker.specs.TypeViews.{context_typed}
use Rattle.linker.proofs.SortLemmas.{function_fits}
use Rattle.linker.proofs.agreement.fits_header.Goals as goal

pub returns-then-not-site : goal.returns-then-not-site
returns-then-not-site c =
    let d = context_typed c.args.caller.now in
    let b = context_typed c.args.called.now in
    let k = call_of c.args.site.now in
    let f = function_fits d k b c.in-Func.field-0 c.in-Func.own c.in-Func.field-2.items (ap header_of c.in-Func.is) in
    c.same_kind.ensures ∙ ap (λ x. same_kind x c.kind_of-then-not-site.result) c.kind_of.ensures ∙ ap (same_kind (kind_of d k.name)) c.kind_of-then-not-site.ensures
    ∙ sym (ap (λ (v : Bool). not v && same_kind (kind_of d k.name) (kind_of b c.in-Func.own)) c.if-not-site.true) ∙ sym f

pub returns-else-not-site : goal.returns-else-not-site
returns-else-not-site c =
    let d = context_typed c.args.caller.now in
    let b = context_typed c.args.called.now in
    let k = call_of c.args.site.now in
    let f = function_fits d k b c.in-Func.field-0 c.in-Func.own c.in-Func.field-2.items (ap header_of c.in-Func.is) in
    ap not c.if-not-site.false ∙ sym (ap (λ (v : Bool). not v && same_kind (kind_of d k.name) (kind_of b c.in-Func.own)) c.if-not-site.false) ∙ sym f
