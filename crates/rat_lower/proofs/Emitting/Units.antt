-- The statements of a whole unit.
use Rattle.std.proofs.Common.{◌≡◌, ℕ, List, [], ◌∷◌, ◌++◌, Bool, true, false, refl, sym, ap, ◌∙◌}
use Rattle.std.proofs.lemmas.List.{append-nil}
use mathlib.Core.Path.{fun_ext}
use Rattle.ground.specs.declared.place.Place.{Place}
use Rattle.std.specs.Prelude.{if◌then◌else◌}
use Rattle.f66_tree.specs.Syntax.{Text, Header, MainUnit, SubUnit, FuncUnit, DataUnit, Line}
use Rattle.f66_tree.specs.Units.{is_main, is_note, name_of}
use Rattle.rat_tree.specs.Syntax.{Commands, RatRoutine}
use Rattle.rat_lower.specs.Code.{all_code, declared_if, ends_itself, ends_so, is_transfer, end_unless, have_switch, unit_code}
use Rattle.rat_lower.specs.Emitted.{Making, labels_past, Adds, AllEmitted}
use Rattle.rat_lower.specs.Lowered.{IsUnitCode}

-- a declaration does not say how a unit ends
so_behind : (b : Bool) (p : Place) (spare : Text) (code : List Line) → ends_so false (declared_if b p spare code) ≡ ends_so false code
so_behind true p spare code = refl
so_behind false p spare code = refl

ends_behind : (h : Header) (b : Bool) (p : Place) (spare : Text) (code : List Line) → ends_itself h (declared_if b p spare code) ≡ ends_itself h code
ends_behind MainUnit b p spare code = so_behind b p spare code
ends_behind (SubUnit x ds) b p spare code = so_behind b p spare code
ends_behind (FuncUnit t x ds) b p spare code = so_behind b p spare code
ends_behind DataUnit b p spare code = refl

-- what ends a unit is put behind its statements unless they end so
ends_with_end : (main : Bool) (p : Place) (code : List Line) (other : Bool) → ends_so other (code ++ end_unless main (ends_so other code) p) ≡ true
ends_with_end true p [] true = refl
ends_with_end true p [] false = refl
ends_with_end false p [] true = refl
ends_with_end false p [] false = refl
ends_with_end main p (s ∷ rest) other = by (is_note s.act) (λ o. ends_with_end main p rest o)
  where
    by : (v : Bool) → ((o : Bool) → ends_so o (rest ++ end_unless main (ends_so o rest) p) ≡ true) →
        (if v then ends_so other (rest ++ end_unless main (if v then ends_so other rest else ends_so (is_transfer s.act) rest) p) else ends_so (is_transfer s.act) (rest ++ end_unless main (if v then ends_so other rest else ends_so (is_transfer s.act) rest) p)) ≡ true
    by true h = h other
    by false h = h (is_transfer s.act)

pub ends_with_its_end : (h : Header) (p : Place) (code : List Line) → ends_itself h (code ++ end_unless (is_main h) (ends_itself h code) p) ≡ true
ends_with_its_end MainUnit p code = ends_with_end true p code false
ends_with_its_end (SubUnit x ds) p code = ends_with_end false p code false
ends_with_its_end (FuncUnit t x ds) p code = ends_with_end false p code false
ends_with_its_end DataUnit p code = refl

pub unit_lowered : (header : Header) (before after : Making) (used : Bool) (p q : Place) (ss : Commands) (l0 l1 l2 l3 : List Line) →
    before.made ≡ 0 →
    before.own ≡ name_of header →
    used ≡ have_switch ss →
    l0 ≡ [] →
    Adds l0 l1 (declared_if used p before.spare) →
    AllEmitted ss [] before after l1 l2 →
    l3 ≡ l2 ++ end_unless (is_main header) (ends_itself header l2) q →
    IsUnitCode (labels_past before.taken) before.spare (record { header = header; body = ss; place = p }) q l3
unit_lowered header before after used p q ss l0 l1 l2 l3 made own has none declared body end =
    let M = labels_past before.taken in
    let x = before.spare in
    let o = name_of header in
    let all : (rest : List Line) → l2 ++ rest ≡ declared_if (have_switch ss) p x (all_code M x o ss 0 [] rest) =
    λ rest.
    body.added.by rest
    ∙ declared.by (all_code M x before.own ss before.made [] rest)
    ∙ ap (λ l. l ++ declared_if used p x (all_code M x before.own ss before.made [] rest)) none
    ∙ ap (λ y. declared_if used p x (all_code M x y ss before.made [] rest)) own
    ∙ ap (λ n. declared_if used p x (all_code M x o ss n [] rest)) made
    ∙ ap (λ b. declared_if b p x (all_code M x o ss 0 [] rest)) has in
    let ends : ends_itself header l2 ≡ ends_itself header (all_code M x o ss 0 [] []) =
    ap (ends_itself header) (sym (append-nil l2) ∙ all []) ∙ ends_behind header (have_switch ss) p x (all_code M x o ss 0 [] []) in
    record {
      is = end ∙ ap (λ b. l2 ++ end_unless (is_main header) b q) ends ∙ all (end_unless (is_main header) (ends_itself header (all_code M x o ss 0 [] [])) q);
    }

-- the same labels in the same order, and the same spare name
pub made_alike : (u : RatRoutine) (taken given : List ℕ) (x y : Text) (q : Place) (code : List Line) → ((i : ℕ) → labels_past taken i ≡ labels_past given i) → x ≡ y → IsUnitCode (labels_past taken) x u q code → IsUnitCode (labels_past given) y u q code
made_alike u taken given x y q code same spare h = record {
  is = h.is ∙ ap (λ f. unit_code f x u.header u.place q u.body) (fun_ext same) ∙ ap (λ n. unit_code (labels_past given) n u.header u.place q u.body) spare;
}
