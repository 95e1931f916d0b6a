-- Places in a write set.
use Rattle.std.proofs.Common.{◌≡◌, ℕ, zero, suc, ◌<◌, ◌≤◌, Bool, true, false, cond, ◌||◌, eqb, List, [], ◌∷◌, ◌++◌, length, get_or, sym, refl, ap, ◌∙◌, subst, ⊎_elim, arith}
use Rattle.rules.specs.Sound.{Distinct}
use Rattle.rules.specs.WriteSet.{has, place, with}
use Rattle.std.proofs.lemmas.List.{length_push}
use Rattle.std.proofs.lemmas.List.Folds.{list_any-append, list_any_at}
use Rattle.std.proofs.lemmas.Bool.{both_ways, cases_Bool, cond_both, cond-false, cond-true, eq-eqb, eqb-false, eqb-true, false≢true, ne_eqb, or_cases, or_from, or_parts, or_right}
use Rattle.rules.proofs.Basics.{never}

pub place_below : (b : ℕ) (ws : List ℕ) → has b ws ≡ true → place b ws < length ws
place_below b [] h = absurd (false≢true h)
place_below b (w ∷ ws) h =
    cond_both (eqb w b) 0 (suc (place b ws)) (λ n. n < length (w ∷ ws)) (λ _. omega arith)
    (λ e. let i = place_below b ws (⊎_elim (λ z. never (eqb w b) z e) (λ z. z) (or_cases (eqb w b) (has b ws) h)) in omega arith)

pub place_at_most : (b : ℕ) (ws : List ℕ) → place b ws ≤ length ws
place_at_most b [] = omega arith
place_at_most b (w ∷ ws) =
    let i = place_at_most b ws in
    cond_both (eqb w b) 0 (suc (place b ws)) (λ n. n ≤ length (w ∷ ws)) (λ _. omega arith) (λ _. omega arith)

pub place_same : (q b : ℕ) (ws : List ℕ) → has q ws ≡ true → place q ws ≡ place b ws → q ≡ b
place_same q b [] h e = absurd (false≢true h)
place_same q b (w ∷ ws) h e =
    ⊎_elim
    (λ (p : eqb w q ≡ true).
    ⊎_elim
    (λ (k : eqb w b ≡ true). sym (eqb-true w q p) ∙ eqb-true w b k)
    (λ (k : eqb w b ≡ false).
    let x = cond-true (eqb w q) 0 (suc (place q ws)) p in
    let y = cond-false (eqb w b) 0 (suc (place b ws)) k in
    absurd (omega (arith, x, y, e)))
    (cases_Bool (eqb w b)))
    (λ (p : eqb w q ≡ false).
    let x = cond-false (eqb w q) 0 (suc (place q ws)) p in
    ⊎_elim
    (λ (k : eqb w b ≡ true).
    let y = cond-true (eqb w b) 0 (suc (place b ws)) k in absurd (omega (arith, x, y, e)))
    (λ (k : eqb w b ≡ false).
    let y = cond-false (eqb w b) 0 (suc (place b ws)) k in
    place_same q b ws (⊎_elim (λ z. never (eqb w q) z p) (λ z. z) (or_cases (eqb w q) (has q ws) h)) (omega (arith, x, y, e)))
    (cases_Bool (eqb w b)))
    (cases_Bool (eqb w q))

pub has_get : (ws : List ℕ) (n : ℕ) → n < length ws → has (get_or ws n 0) ws ≡ true
has_get ws n l = list_any_at (λ w. eqb w (get_or ws n 0)) ws n 0 l (eq-eqb (get_or ws n 0) (get_or ws n 0) refl)

pub place_get : (ws : List ℕ) (n : ℕ) → Distinct ws → n < length ws → place (get_or ws n 0) ws ≡ n
place_get [] n d l = omega arith
place_get (w ∷ ws) zero d l = cond-true (eqb w w) 0 (suc (place w ws)) (eq-eqb w w refl)
place_get (w ∷ ws) (suc n) d l =
    let h : has (get_or ws n 0) ws ≡ true = has_get ws n (omega arith) in
    cond-false (eqb w (get_or ws n 0)) 0 (suc (place (get_or ws n 0) ws))
    (ne_eqb w (get_or ws n 0) (λ e. both_ways (has w ws) d.0 (subst (λ z. has z ws ≡ true) (sym e) h)))
    ∙ ap suc (place_get ws n d.1 (omega arith))

or_false : (x : Bool) → (x || false) ≡ x
or_false true = refl
or_false false = refl

pub has_push : (q b : ℕ) (ws : List ℕ) → has q (ws ++ b ∷ []) ≡ (has q ws || eqb b q)
has_push q b ws = list_any-append (λ w. eqb w q) ws (b ∷ []) ∙ ap (λ x. has q ws || x) (or_false (eqb b q))

pub place_push : (q b : ℕ) (ws : List ℕ) → has q ws ≡ true → place q (ws ++ b ∷ []) ≡ place q ws
place_push q b [] h = absurd (false≢true h)
place_push q b (w ∷ ws) h =
    ⊎_elim
    (λ p. cond-true (eqb w q) 0 (suc (place q (ws ++ b ∷ []))) p ∙ sym (cond-true (eqb w q) 0 (suc (place q ws)) p))
    (λ p. ap (λ n. cond (eqb w q) 0 (suc n))
    (place_push q b ws (⊎_elim (λ z. never (eqb w q) z p) (λ z. z) (or_cases (eqb w q) (has q ws) h))))
    (cases_Bool (eqb w q))

pub place_new : (b : ℕ) (ws : List ℕ) → has b ws ≡ false → place b (ws ++ b ∷ []) ≡ place b ws
place_new b [] h = cond-true (eqb b b) 0 1 (eq-eqb b b refl)
place_new b (w ∷ ws) h = ap (λ n. cond (eqb w b) 0 (suc n)) (place_new b ws (or_parts (eqb w b) (has b ws) h).1)

pub place_absent : (b : ℕ) (ws : List ℕ) → has b ws ≡ false → place b ws ≡ length ws
place_absent b [] h = refl
place_absent b (w ∷ ws) h =
    let z = or_parts (eqb w b) (has b ws) h in
    cond-false (eqb w b) 0 (suc (place b ws)) z.0 ∙ ap suc (place_absent b ws z.1)

pub distinct_push : (b : ℕ) (ws : List ℕ) → Distinct ws → has b ws ≡ false → Distinct (ws ++ b ∷ [])
distinct_push b [] d h = (refl, tt)
distinct_push b (w ∷ ws) d h =
    let z = or_parts (eqb w b) (has b ws) h in (
      has_push w b ws ∙ or_from (has w ws) (eqb b w) d.0 (ne_eqb b w (λ e. eqb-false w b z.0 (sym e))),
      distinct_push b ws d.1 z.1,
    )

-- a write set with one more word, unless it has it
pub added_other : (q b : ℕ) (ws : List ℕ) → (q ≡ b → ⊥) → has q (with b ws) ≡ has q ws
added_other q b ws n =
    cond_both (has b ws) ws (ws ++ b ∷ []) (λ x. has q x ≡ has q ws) (λ _. refl)
    (λ _. has_push q b ws ∙ ap (λ x. has q ws || x) (ne_eqb b q (λ e. n (sym e))) ∙ or_false (has q ws))

pub added_self : (b : ℕ) (ws : List ℕ) → has b (with b ws) ≡ true
added_self b ws =
    cond_both (has b ws) ws (ws ++ b ∷ []) (λ x. has b x ≡ true) (λ h. h)
    (λ _. has_push b b ws ∙ or_right (has b ws) (eqb b b) (eq-eqb b b refl))

pub added_place : (q b : ℕ) (ws : List ℕ) → has q ws ≡ true → place q (with b ws) ≡ place q ws
added_place q b ws h = cond_both (has b ws) ws (ws ++ b ∷ []) (λ x. place q x ≡ place q ws) (λ _. refl) (λ _. place_push q b ws h)

pub added_here : (b : ℕ) (ws : List ℕ) → place b (with b ws) ≡ place b ws
added_here b ws = cond_both (has b ws) ws (ws ++ b ∷ []) (λ x. place b x ≡ place b ws) (λ _. refl) (λ h. place_new b ws h)

pub added_distinct : (b : ℕ) (ws : List ℕ) → Distinct ws → Distinct (with b ws)
added_distinct b ws d = cond_both (has b ws) ws (ws ++ b ∷ []) Distinct (λ _. d) (λ h. distinct_push b ws d h)

pub added_few : (b : ℕ) (ws : List ℕ) → length ws ≤ 32 → (has b ws ≡ false → length ws < 32) → length (with b ws) ≤ 32
added_few b ws l r =
    cond_both (has b ws) ws (ws ++ b ∷ []) (λ x. length x ≤ 32) (λ _. l) (λ h. omega (arith, length_push ws b, r h))

pub room_place : (b : ℕ) (ws : List ℕ) → length ws ≤ 32 → (has b ws ≡ false → length ws < 32) → place b ws < 32
room_place b ws l r =
    ⊎_elim (λ h. omega (arith, place_below b ws h)) (λ h. omega (arith, place_absent b ws h, r h)) (cases_Bool (has b ws))
