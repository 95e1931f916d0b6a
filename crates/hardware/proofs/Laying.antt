-- The words as they would be: what a look finds there, and what one word more set aside makes of them.
use Rattle.std.proofs.Common.{◌≡◌, ℕ, zero, suc, ◌+◌, ◌<◌, ◌≤◌, Bool, true, false, cond, ◌||◌, ◌≢◌, List, [], ◌∷◌, ◌++◌, length, get_or, set, is_some, Some, None, Option, sym, refl, ap, ◌∙◌, ◌==◌, arith}
use Rattle.std.specs.List.{list_any, position, position_from}
use Rattle.std.proofs.lemmas.Bool.{cond-true, cond-false, eqb-true, eqb-false, or_parts}
use Rattle.std.proofs.lemmas.Iterator.Adapters.{position_from-zero}
use Rattle.std.proofs.lemmas.List.{set-set, set_comm}
use Rattle.std.proofs.lemmas.List.Quantifiers.{position-Some}
use Rattle.meaning.specs.Laid.{laid}
use Rattle.meaning.specs.Store.{nth}
use Rattle.hardware.specs.Limits.{with_new}
use Rattle.meaning.proofs.Laying.{laid_more, length_laid}
use Rattle.meaning.proofs.Stores.{nth_set_same, nth_set_other}

-- a place is found exactly where the test passes somewhere
found_if : (t : Bool) (n : ℕ) (o : Option ℕ) (rest : Bool) → is_some o ≡ rest → is_some (cond t (Some n) o) ≡ (t || rest)
found_if true n o rest e = refl
found_if false n o rest e = e

found_from : {X : Type 0} (p : X → Bool) (n : ℕ) (xs : List X) → is_some (position_from p n xs) ≡ list_any p xs
found_from p n [] = refl
found_from p n (x ∷ xs) = found_if (p x) n (position_from p (n + 1) xs) (list_any p xs) (found_from p (n + 1) xs)

found : {X : Type 0} (p : X → Bool) (xs : List X) → is_some (position p xs) ≡ list_any p xs
found p xs = ap is_some (position_from-zero p xs) ∙ found_from p 0 xs

-- what a search in a list l that is bs has found
searched : (b : ℕ) (l bs : List ℕ) (o o' : Option ℕ) → l ≡ bs → o ≡ position (λ w. w == b) l → o ≡ o' → position (λ w. w == b) bs ≡ o'
searched b l bs o o' el eo e = ap (position (λ w. w == b)) (sym el) ∙ (sym eo ∙ e)

pub absent : (b : ℕ) (l bs : List ℕ) (o : Option ℕ) → l ≡ bs → o ≡ position (λ w. w == b) l → o ≡ None → list_any (λ w. w == b) bs ≡ false
absent b l bs o el eo e = sym (found (λ w. w == b) bs) ∙ ap is_some (searched b l bs o None el eo e)

present : (b j : ℕ) (l bs : List ℕ) (o : Option ℕ) → l ≡ bs → o ≡ position (λ w. w == b) l → o ≡ Some j → list_any (λ w. w == b) bs ≡ true
present b j l bs o el eo e = sym (found (λ w. w == b) bs) ∙ ap is_some (searched b l bs o (Some j) el eo e)

-- b stands at place j of bs, and nowhere before
abbrev First : ℕ → List ℕ → ℕ → Type 0
First b bs j = (j < length bs) × (get_or bs j 0 ≡ b) × ((k : ℕ) → k < j → get_or bs k 0 ≢ b)

is_first : (b : ℕ) (bs : List ℕ) (j : ℕ) → position (λ w. w == b) bs ≡ Some j → First b bs j
is_first b bs j e =
    let p = position-Some (λ w. w == b) bs j 0 e in
    (p.0, eqb-true (get_or bs j 0) b p.1, λ k l. eqb-false (get_or bs k 0) b (p.2 k l))

module _ {V : Type 0} where
  look_there : (b j : ℕ) (bs : List ℕ) (vs ws : List V) (v : V) → First b bs j → length bs ≤ length vs → b < length ws → nth vs j ≡ Some v →
      nth (laid bs vs ws) b ≡ Some v
  look_there b j [] vs ws v f l h e = absurd (omega (arith, f.0))
  look_there b j (k ∷ bs) [] ws v f l h e = absurd (omega arith)
  look_there b zero (k ∷ bs) (x ∷ vs) ws v f l h e =
      ap (λ (i : ℕ). nth (set (laid bs vs ws) i x) b) f.1 ∙ (nth_set_same (laid bs vs ws) b x (omega (arith, length_laid bs vs ws)) ∙ e)
  look_there b (suc j) (k ∷ bs) (x ∷ vs) ws v f l h e =
      nth_set_other (laid bs vs ws) k b x (λ z. f.2 0 (omega arith) (sym z))
      ∙ look_there b j bs vs ws v (omega (arith, f.0), f.1, λ i m. f.2 (suc i) (omega arith)) (omega arith) h e

  set_there : (b j : ℕ) (bs : List ℕ) (vs ws : List V) (v : V) → First b bs j → length bs ≤ length vs → laid bs (set vs j v) ws ≡ set (laid bs vs ws) b v
  set_there b j [] vs ws v f l = absurd (omega (arith, f.0))
  set_there b j (k ∷ bs) [] ws v f l = absurd (omega arith)
  set_there b zero (k ∷ bs) (x ∷ vs) ws v f l =
      sym (ap (λ (i : ℕ). set (set (laid bs vs ws) k x) i v) (sym f.1) ∙ set-set (laid bs vs ws) k x v)
  set_there b (suc j) (k ∷ bs) (x ∷ vs) ws v f l =
      ap (λ (y : List V). set y k x) (set_there b j bs vs ws v (omega (arith, f.0), f.1, λ i m. f.2 (suc i) (omega arith)) (omega arith))
      ∙ set_comm (laid bs vs ws) b k v x (λ z. f.2 0 (omega arith) (sym z))

  look_absent : (b : ℕ) (bs : List ℕ) (vs ws : List V) → list_any (λ w. w == b) bs ≡ false → nth (laid bs vs ws) b ≡ nth ws b
  look_absent b [] vs ws e = refl
  look_absent b (k ∷ bs) [] ws e = refl
  look_absent b (k ∷ bs) (x ∷ vs) ws e =
      let p = or_parts (k == b) (list_any (λ w. w == b) bs) e in
      nth_set_other (laid bs vs ws) k b x (λ z. eqb-false k b p.0 (sym z)) ∙ look_absent b bs vs ws p.1

  lay_absent : (b : ℕ) (bs : List ℕ) (vs ws : List V) (v : V) → list_any (λ w. w == b) bs ≡ false → laid bs vs (set ws b v) ≡ set (laid bs vs ws) b v
  lay_absent b [] vs ws v e = refl
  lay_absent b (k ∷ bs) [] ws v e = refl
  lay_absent b (k ∷ bs) (x ∷ vs) ws v e =
      let p = or_parts (k == b) (list_any (λ w. w == b) bs) e in
      ap (λ (y : List V). set y k x) (lay_absent b bs vs ws v p.1) ∙ set_comm (laid bs vs ws) b k v x (λ z. eqb-false k b p.0 (sym z))

  module _ (b : ℕ) (l bs : List ℕ) (vs ws : List V) (v : V) (o : Option ℕ) (el : l ≡ bs) (eo : o ≡ position (λ w. w == b) l) where
    -- a look finds the value set aside, or the word's own
    pub peek_there : (j : ℕ) → o ≡ Some j → length bs ≤ length vs → b < length ws → nth vs j ≡ Some v → nth (laid bs vs ws) b ≡ Some v
    peek_there j e m h n = look_there b j bs vs ws v (is_first b bs j (searched b l bs o (Some j) el eo e)) m h n

    pub peek_absent : o ≡ None → nth ws b ≡ Some v → nth (laid bs vs ws) b ≡ Some v
    peek_absent e n = look_absent b bs vs ws (absent b l bs o el eo e) ∙ n

    -- one word more set aside is one word more set
    pub aside_there : (j : ℕ) (vs' : List V) → o ≡ Some j → length bs ≤ length vs → vs' ≡ set vs j v → laid bs vs' ws ≡ set (laid bs vs ws) b v
    aside_there j vs' e m ev = ap (λ (y : List V). laid bs y ws) ev ∙ set_there b j bs vs ws v (is_first b bs j (searched b l bs o (Some j) el eo e)) m

    pub aside_new : (n : ℕ) (bs' : List ℕ) (vs' : List V) → o ≡ None → n ≡ length bs → n < length vs → bs' ≡ bs ++ b ∷ [] → vs' ≡ set vs n v →
        laid bs' vs' ws ≡ set (laid bs vs ws) b v
    aside_new n bs' vs' e en m eb ev =
        ap (λ (x : List ℕ). laid x vs' ws) eb
        ∙ (ap (λ (y : List V). laid (bs ++ b ∷ []) y ws) (ev ∙ ap (λ (k : ℕ). set vs k v) en)
        ∙ (laid_more bs vs b v ws (omega arith) ∙ lay_absent b bs vs ws v (absent b l bs o el eo e)))

-- the words set aside, with one that is there, and with a new one
pub with_there : (b j : ℕ) (l bs : List ℕ) (o : Option ℕ) → l ≡ bs → o ≡ position (λ w. w == b) l → o ≡ Some j → bs ≡ with_new b bs
with_there b j l bs o el eo e = sym (cond-true (list_any (λ w. w == b) bs) bs (bs ++ b ∷ []) (present b j l bs o el eo e))

pub with_absent : (b : ℕ) (l bs : List ℕ) (o : Option ℕ) → l ≡ bs → o ≡ position (λ w. w == b) l → o ≡ None → bs ++ b ∷ [] ≡ with_new b bs
with_absent b l bs o el eo e = sym (cond-false (list_any (λ w. w == b) bs) bs (bs ++ b ∷ []) (absent b l bs o el eo e))
