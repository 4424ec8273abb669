-- What a buffer has after a read behind its bytes.
use Rattle.std.specs.Prelude.{Result, Ok, Err}
use Rattle.std.specs.Result.{IfOk}
use Rattle.std.specs.declared.option.Option.{Option}
use Rattle.std.specs.Io.{ReadsAtMost}
use Rattle.std.specs.Io.KnownBytes.{Consumes, ReadConsumes}
use Rattle.std.proofs.Common.{◌≡◌, ℕ, ◌+◌, ◌-◌, ◌≤◌, List, ◌++◌, length, drop, take, sym, ◌∙◌, ap, arith, length-drop}
use Rattle.std.proofs.lemmas.List.{append-nil, take_all, drop_all, take-append-le, drop-append-le, length-take-le, drop-take}
use Rattle.std.proofs.lemmas.List.Edits.{take-paste}
use lib.Seq.{paste}
use Rattle.std.proofs.Math.Seq.{take-append-add}

-- what a write to all of a vector leaves
pub put_back : (items new : List ℕ) (long : ℕ) → length new ≡ length items → long ≡ length items → take long (new ++ drop (length new) items) ≡ new
put_back items new long same all =
    ap (λ (l : List ℕ). take long (new ++ l)) (drop_all (length new) items (omega arith))
    ∙ ap (take long) (append-nil new)
    ∙ take_all long new (omega arith)

pub behind : (old into post : List ℕ) (end n : ℕ) → end ≤ length old → n ≤ length into → take (end + n) (take end old ++ (into ++ post)) ≡ take end old ++ take n into
behind old into post end n le short =
    let long = length-take-le end old le in
    ap (λ (k : ℕ). take (k + n) (take end old ++ (into ++ post))) (sym long)
    ∙ take-append-add (take end old) (into ++ post) n
    ∙ ap (λ (l : List ℕ). take end old ++ l) (take-append-le n into post short)

-- the bytes at hand, which begin at the front, and those that were got
pub hand_more : (items new got : List ℕ) (first end n : ℕ) → first ≤ end → end ≤ length items → take (end + n) new ≡ take end items ++ got → drop first (take (end + n) new) ≡ drop first (take end items) ++ got
hand_more items new got first end n le within is =
    let long = length-take-le end items within in
    ap (drop first) is ∙ drop-append-le first (take end items) got (omega arith)

-- a read behind what was there
pub read_put : {E : Type 0} (r : Result ℕ E) (old into post : List ℕ) (end : ℕ) (left left1 : Option (List ℕ)) → end ≤ length old → ReadsAtMost r into → ReadConsumes left left1 r into → IfOk r (λ n. (got : List ℕ) × (take (end + n) (take end old ++ (into ++ post)) ≡ take end old ++ got) × (length got ≡ n) × Consumes left left1 got)
read_put (Ok n) old into post end left left1 le short consumes = (take n into, behind old into post end n le short.0, length-take-le n into short.0, consumes.0)
read_put (Err e) old into post end left left1 le short consumes = tt

-- what a copy to the front leaves there
pub fronted : (xs : List ℕ) (i j : ℕ) → i ≤ j → j ≤ length xs → take (j - i) (paste xs 0 (drop i xs) (j - i)) ≡ drop i (take j xs)
fronted xs i j le within =
    let left = j - i in
    let same : left ≡ 0 + left = omega arith in
    let all : i + left ≡ j = omega arith in
    let rest = length-drop i xs in
    ap (λ k. take k (paste xs 0 (drop i xs) left)) same ∙ take-paste xs 0 (drop i xs) left (omega arith) (omega arith) ∙ sym (drop-take i left xs) ∙ ap (λ k. drop i (take k xs)) all
