-- What is stored loads back, and what loads is stored as it was.
use Rattle.std.proofs.Common.{◌≡◌, ℕ, zero, suc, ◌+◌, ◌*◌, ◌/◌, ◌%◌, ◌^◌, ◌<◌, ◌≤◌, cond, List, ◌∷◌, [], ◌++◌, length, get_or, take, drop, Some, None, Ok, Option, sym, refl, ap, ◌∙◌, arith}
use Rattle.std.specs.List.{filter_map, cons_option, position, position_from}
use Rattle.std.specs.Option.{is_none}
use Rattle.std.specs.Simd.{first_chunks}
use Rattle.std.proofs.lemmas.Grind.{common_steps}
use Rattle.std.proofs.lemmas.Iterator.Adapters.{position_from-zero}
use Rattle.std.proofs.lemmas.List.{length-drop, length-take-le, nil_from_length, take-append-drop}
use Rattle.std.proofs.lemmas.Nat.{from_le_bytes-to_le_bytes_8, le_bytes_8}
use Rattle.storage.specs.File.{bytes_of, code_of, chunks_in, file_of, value_of, is_bad, loaded}

-- A part of a file is of bytes, too.
small_taken : (file : List ℕ) → ((i : ℕ) → get_or file i 0 < 256) → (n i : ℕ) → get_or (take n file) i 0 < 256
small_taken file small n i = grind (arith, common_steps, small i)

small_dropped : (file : List ℕ) → ((i : ℕ) → get_or file i 0 < 256) → (n i : ℕ) → get_or (drop n file) i 0 < 256
small_dropped file small n i = grind (arith, common_steps, small (n + i))

module _ {V : Type 0} (codes : V → ℕ) (decodes : ℕ → Option V) where
  length_file : (ws : List V) → length (file_of codes ws) ≡ 8 * length ws
  length_file [] = refl
  length_file (w ∷ ws) = omega (arith, length_file ws)

  module _ (fits : (v : V) → codes v < 2 ^ 64) (back : (v : V) → decodes (codes v) ≡ Some v) where
    codes_back : (i : ℕ) (ws : List V) → let found = first_chunks 8 (length ws) (file_of codes ws) in
        (position_from (is_bad decodes) i found ≡ None) × (filter_map (value_of decodes) found ≡ ws)
    codes_back i [] = (refl, refl)
    codes_back i (w ∷ ws) =
        let e : value_of decodes (bytes_of (codes w)) ≡ Some w = ap decodes (from_le_bytes-to_le_bytes_8 (codes w) (fits w)) ∙ back w in
        let more = codes_back (i + 1) ws in
        (rw e more.0, rw e (ap (λ (vs : List V). w ∷ vs) more.1))

    pub loads_back : (ws : List V) (file : List ℕ) → file ≡ file_of codes ws → loaded decodes file ≡ Ok ws
    loads_back ws file e =
        let n : length (file_of codes ws) / 8 ≡ length ws = omega (arith, length_file ws) in
        let p = codes_back 0 ws in
        rw (e, n, position_from-zero (is_bad decodes), p.0, p.1)

  module _ (sole : (n : ℕ) (v : V) → decodes n ≡ Some v → codes v ≡ n) where
    first_as_was : (file : List ℕ) → 8 ≤ length file → ((i : ℕ) → get_or file i 0 < 256) →
        (i : ℕ) (o : Option V) (more : Option ℕ) (vs : List V) → decodes (code_of (take 8 file)) ≡ o → cond (is_none o) (Some i) more ≡ None →
        (more ≡ None → file_of codes vs ≡ drop 8 file) → file_of codes (cons_option o vs) ≡ file
    first_as_was file long small i None more vs e none rest = absurd (cc)
    first_as_was file long small i (Some v) more vs e none rest =
        let eight : length (take 8 file) ≡ 8 = length-take-le 8 file long in
        let first : bytes_of (codes v) ≡ take 8 file = le_bytes_8 (take 8 file) (codes v) eight (small_taken file small 8) (sole _ v e) in
        ap (λ (bs : List ℕ). bs ++ file_of codes vs) first ∙ (ap (λ (bs : List ℕ). take 8 file ++ bs) (rest none) ∙ take-append-drop 8 file)

    codes_as_were : (n i : ℕ) (file : List ℕ) → length file ≡ 8 * n → ((i : ℕ) → get_or file i 0 < 256) → let found = first_chunks 8 n file in
        position_from (is_bad decodes) i found ≡ None → file_of codes (filter_map (value_of decodes) found) ≡ file
    codes_as_were zero i file long small none = sym (nil_from_length file (omega arith))
    codes_as_were (suc n) i file long small none =
        first_as_was file (omega arith) small i _ _ _ refl none
        (codes_as_were n (i + 1) (drop 8 file) (omega (arith, length-drop 8 file)) (small_dropped file small 8))

    pub stores_as_was : (file : List ℕ) (found : List (List ℕ)) (ws : List V) → length file % 8 ≡ 0 → ((i : ℕ) → get_or file i 0 < 256) →
        found ≡ chunks_in file → position (is_bad decodes) found ≡ None → ws ≡ filter_map (value_of decodes) found → file_of codes ws ≡ file
    stores_as_was file found ws long small e none read =
        let same = codes_as_were (length file / 8) 0 file (omega arith) small in
        rw (read, e) (same (sym (position_from-zero (is_bad decodes) (chunks_in file)) ∙ ap (position (is_bad decodes)) (sym e) ∙ none))
