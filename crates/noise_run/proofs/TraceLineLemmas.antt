-- Lines of a key schedule, made word by word.
use Rattle.std.proofs.Common.{◌≡◌, ◌∙◌, refl, sym, ap, ℕ, List, [], ◌∷◌, ◌++◌, append_assoc}
use Rattle.noise_run.proofs.Common.{line_of}

-- words more
pub line-joined : (a : List ℕ) (ws : List (List ℕ)) (b : List ℕ) (vs : List (List ℕ))
    → line_of ((a ∷ ws) ++ (b ∷ vs)) ≡ line_of (a ∷ ws) ++ 32 ∷ line_of (b ∷ vs)
line-joined a [] b vs = refl
line-joined a (w ∷ ws) b vs = search (append_assoc, (line-joined w ws b vs))

-- a line to which words were added
pub words-added : (text made : List ℕ) (a : List ℕ) (ws : List (List ℕ)) (b : List ℕ) (vs : List (List ℕ)) → text ≡ line_of (a ∷ ws)
    → made ≡ text ++ 32 ∷ line_of (b ∷ vs) → made ≡ line_of ((a ∷ ws) ++ (b ∷ vs))
words-added text made a ws b vs front is = is ∙ ap (λ (t : List ℕ). t ++ 32 ∷ line_of (b ∷ vs)) front ∙ sym (line-joined a ws b vs)

-- ---- numbered lines

-- one word more, which is this one
pub said-added : (text made : List ℕ) (a : List ℕ) (ws : List (List ℕ)) (x b : List ℕ) → x ≡ b → text ≡ line_of (a ∷ ws) → made ≡ text ++ 32 ∷ x
    → made ≡ line_of ((a ∷ ws) ++ (b ∷ []))
said-added text made a ws x b same front is = words-added text made a ws b [] front (is ∙ ap (λ (t : List ℕ). text ++ 32 ∷ t) same)
