-- The words with the values of a log, when an entry is added to it and when its last entry is written.
use Rattle.std.proofs.Common.{◌≡◌, ℕ, zero, suc, ◌+◌, ◌<◌, ◌≤◌, Bool, true, false, cond, List, [], ◌∷◌, ◌++◌, length, get_or, take, set, Some, Ok, Err, Result, sym, refl, ap, ◌∙◌, subst, arith}
use Rattle.std.proofs.lemmas.List.{take_more, length-set, length-take-le, set-set, set-get_or, get_or-set_same}
use Rattle.stock.specs.declared.access.Access.{Access}
use Rattle.stock.specs.declared.fault.StockFault.{StockFault}
use Rattle.stock.specs.Access.{writing_access}
use Rattle.meaning.specs.Laid.{laid}
use Rattle.meaning.specs.Step.{words_after}
use Rattle.meaning.specs.Store.{nth}
use Rattle.meaning.proofs.Stores.{nth_read}

module _ {V : Type 0} where
  pub length_laid : (bs : List ℕ) (vs ws : List V) → length (laid bs vs ws) ≡ length ws
  length_laid [] vs ws = refl
  length_laid (b ∷ bs) [] ws = refl
  length_laid (b ∷ bs) (v ∷ vs) ws = length-set (laid bs vs ws) b v ∙ length_laid bs vs ws

  laid_push : (bs : List ℕ) (vs : List V) (b : ℕ) (v : V) (ws : List V) → length bs < length vs → v ≡ get_or vs (length bs) v →
      laid (bs ++ b ∷ []) vs ws ≡ laid bs vs (set ws b v)
  laid_push bs [] b v ws l e = absurd (omega arith)
  laid_push [] (x ∷ vs) b v ws l e = ap (set ws b) (sym e)
  laid_push (h ∷ bs) (x ∷ vs) b v ws l e = ap (λ (y : List V). set y h x) (laid_push bs vs b v ws (omega arith) e)

  -- a value past the last entry counts for nothing
  laid_past : (bs : List ℕ) (vs : List V) (n : ℕ) (v : V) (ws : List V) → length bs ≤ n → laid bs (set vs n v) ws ≡ laid bs vs ws
  laid_past [] vs n v ws l = refl
  laid_past (b ∷ bs) [] n v ws l = refl
  laid_past (b ∷ bs) (x ∷ vs) zero v ws l = absurd (omega arith)
  laid_past (b ∷ bs) (x ∷ vs) (suc n) v ws l = ap (λ (y : List V). set y b x) (laid_past bs vs n v ws (omega arith))

  -- one entry more
  pub laid_more : (bs : List ℕ) (vs : List V) (b : ℕ) (v : V) (ws : List V) → length bs < length vs →
      laid (bs ++ b ∷ []) (set vs (length bs) v) ws ≡ laid bs vs (set ws b v)
  laid_more bs vs b v ws l =
      laid_push bs (set vs (length bs) v) b v ws (omega (arith, length-set vs (length bs) v)) (sym (get_or-set_same vs (length bs) v v l))
      ∙ laid_past bs vs (length bs) v (set ws b v) (omega arith)

  -- the last entry of those left is written
  pub laid_less : (bs : List ℕ) (vs : List V) (i : ℕ) (v : V) (ws : List V) → i < length bs → length bs ≤ length vs → nth vs i ≡ Some v →
      laid (take i bs) vs (set ws (get_or bs i 0) v) ≡ laid (take (i + 1) bs) vs ws
  laid_less bs vs i v ws l m e =
      let n : length (take i bs) ≡ i = length-take-le i bs (omega arith) in
      sym (ap (λ (x : List ℕ). laid x vs ws) (take_more bs i 0 l)
      ∙ laid_push (take i bs) vs (get_or bs i 0) v ws (omega (arith, n)) (subst (λ (k : ℕ). v ≡ get_or vs k v) (sym n) (nth_read vs i v e)))

  -- whatever a writing access leaves, its word's old value put back gives the words before
  pub put_back : (ws : List V) (a : Access V) (old : V) (r : Result V StockFault) → nth ws a.word ≡ Some old → set (words_after r a ws) a.word old ≡ ws
  put_back ws a old (Ok v) e = by_writing (writing_access a)
    where
      kept : set ws a.word old ≡ ws
      kept = ap (set ws a.word) (nth_read ws a.word old e) ∙ set-get_or ws a.word old

      by_writing : (w : Bool) → set (cond w (set ws a.word v) ws) a.word old ≡ ws
      by_writing true = set-set ws a.word v old ∙ kept
      by_writing false = kept
  put_back ws a old (Err f) e = ap (set ws a.word) (nth_read ws a.word old e) ∙ set-get_or ws a.word old

  pub saved_one : (bs bs' : List ℕ) (vs vs' ws : List V) (a : Access V) (n : ℕ) (old : V) (r : Result V StockFault) →
      bs' ≡ bs ++ a.word ∷ [] → vs' ≡ set vs n old → n ≡ length bs → n < length vs → nth ws a.word ≡ Some old →
      laid bs' vs' (words_after r a ws) ≡ laid bs vs ws
  saved_one bs bs' vs vs' ws a n old r eb ev en l e =
      ap (λ (x : List ℕ). laid x vs' (words_after r a ws)) eb
      ∙ (ap (λ (y : List V). laid (bs ++ a.word ∷ []) y (words_after r a ws)) (ev ∙ ap (λ (k : ℕ). set vs k old) en)
      ∙ (laid_more bs vs a.word old (words_after r a ws) (omega arith) ∙ ap (laid bs vs) (put_back ws a old r e)))
