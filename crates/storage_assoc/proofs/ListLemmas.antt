-- One name more in a list of a common block.
use Rattle.std.proofs.Common.{◌≡◌, ◌<◌, ◌+◌, ℕ, pos, List, [], ◌∷◌, ◌++◌, length, map, slice_index, Option, sym, ◌∙◌, ap, refl, append_assoc, take, get_or}
use Rattle.std.proofs.lemmas.List.{append-nil, map-append, take_more}
use Rattle.std.proofs.lemmas.List.Elements.{All-contains, All-weaker, Contains-push, Contains-append_left, All-contains_itself}
use Rattle.std.specs.List.{All, Contains}
use Rattle.f66_tree.specs.Syntax.{Text, Declared}
use Rattle.f66_tree.specs.Units.{Context}
use Rattle.f66_program.specs.Association.{Own, Block, size_in, list_ties, list_end}
use Rattle.offset_classes.specs.declared.link.Link.{Link}
use Rattle.storage_assoc.specs.Indexing.{link_by}
use Rattle.storage_assoc.specs.Lists.{row_by, IsTabled, ListLinked}

pub list_end-push : (c : Context) (at : ℕ) (ds : List Declared) (d : Declared) → list_end c at (ds ++ d ∷ []) ≡ list_end c at ds + size_in c d.name
list_end-push c at [] d = refl
list_end-push c at (e ∷ ds) d = list_end-push c (at + size_in c e.name) ds d

pub list_ties-push : (u : ℕ) (c : Context) (b : Option Text) (at : ℕ) (ds : List Declared) (d : Declared) →
    list_ties u c b at (ds ++ d ∷ []) ≡ list_ties u c b at ds ++ record { from = Own u d.name; to = Block b; by = pos (list_end c at ds) } ∷ []
list_ties-push u c b at [] d = refl
list_ties-push u c b at (e ∷ ds) d = ap (λ ts. record { from = Own u e.name; to = Block b; by = pos at } ∷ ts) (list_ties-push u c b (at + size_in c e.name) ds d)

pub nothing_linked : (find : Text → Option ℕ) (sizes : List ℕ) (block start : ℕ) (old : List Link) → ListLinked find sizes block start [] old old start
nothing_linked find sizes block start old u c b index all is = (sym (append-nil old), refl)

pub linked_more : (find : Text → Option ℕ) (sizes : List ℕ) (block start : ℕ) (ds : List Declared) (d : Declared) (old now new : List Link) (at end : ℕ) →
    ListLinked find sizes block start ds old now at → new ≡ now ++ record { from = row_by find d.name; to = block; by = pos at } ∷ [] →
    end ≡ at + slice_index sizes (row_by find d.name) → ListLinked find sizes block start (ds ++ d ∷ []) old new end
linked_more find sizes block start ds d old now new at end l is_new is_end u c b index all is =
    let P = IsTabled u c index find sizes in
    let before : All P ds = All-weaker (Contains ds) P (λ x k. All-contains P (ds ++ d ∷ []) x all (Contains-append_left ds (d ∷ []) x k)) ds (All-contains_itself ds) in
    let here = All-contains P (ds ++ d ∷ []) d all (Contains-push ds d) in
    let w = l u c b index before is in
    let link : ℕ → ℕ → ℕ → Link = λ f t o. record { from = f; to = t; by = pos o } in
    let same : link (row_by find d.name) block at ≡ link (index (Own u d.name)) (index (Block b)) (list_end c start ds) = rw (here.0, is, w.1) refl in (
      is_new
          ∙ ap (λ ls. ls ++ link (row_by find d.name) block at ∷ []) w.0
          ∙ append_assoc old (map (link_by index) (list_ties u c b start ds)) (link (row_by find d.name) block at ∷ [])
          ∙ ap (λ l. old ++ (map (link_by index) (list_ties u c b start ds) ++ l ∷ [])) same
          ∙ ap (λ ls. old ++ ls) (sym (ap (map (link_by index)) (list_ties-push u c b start ds d) ∙ map-append (link_by index) (list_ties u c b start ds) _)),
      is_end ∙ rw (list_end-push c start ds d, here.1, w.1) refl,
    )

pub taken_more : {X Y : Type 0} (f : X → Y) (xs : List X) (i : ℕ) (x : X) → i < length xs → x ≡ get_or xs i x → map f (take (i + 1) xs) ≡ map f (take i xs) ++ f x ∷ []
taken_more f xs i x i_in is =
    ap (map f) (take_more xs i x i_in) ∙ map-append f (take i xs) (get_or xs i x ∷ []) ∙ ap (λ y. map f (take i xs) ++ f y ∷ []) (sym is)
