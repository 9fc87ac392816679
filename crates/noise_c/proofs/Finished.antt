-- The number that finishing reports.
use Rattle.std.proofs.Common.{◌≡◌, ℕ, List, [], length, drop, true, false, ap, sym, subst, ◌∙◌, arith}
use Rattle.std.specs.Prelude.{replicate, not}
use Rattle.std.proofs.Math.Seq.{drop-length}
use Rattle.noise_c.proofs.Common.{Bool, None, Some, is_some, if◌then◌else◌, ◌==◌, nat_tests, psks_of, Plan, HandshakeValue, Table, NoiseHandshake, IsUsable, handshake_from_c}
use Rattle.noise_c.specs.Finishing.{Finishes, UsesUp, finish_code, used_up}

pub finish-done : (h : HandshakeValue Table) → h.ended ≡ false → h.passed ≡ length h.pattern.messages → finish_code h ≡ 0
finish-done h e n = grind (arith, nat_tests)

pub finish-early : (h : HandshakeValue Table) → h.ended ≡ false → (h.passed ≡ length h.pattern.messages → ⊥) → finish_code h ≡ 19
finish-early h e n = grind (arith, nat_tests)

pub finish-ended : (h : HandshakeValue Table) → h.ended ≡ true → finish_code h ≡ 13
finish-ended h e = grind (arith, nat_tests)

pub contrary : false ≡ true → ⊥
contrary e = cc

-- the handshake that was opened is that of the struct, by its pattern
pub stored-by : (k : NoiseHandshake) (h : HandshakeValue Table) (p : Plan) → p ≡ h.pattern → h ≡ handshake_from_c h.pattern k → handshake_from_c p k ≡ h
stored-by k h p one same = ap (λ (q : Plan). handshake_from_c q k) one ∙ sym same

pub code-done : (h : HandshakeValue Table) → 0 ≡ finish_code h → h.passed ≡ length h.pattern.messages
code-done h e = grind (arith, nat_tests)

-- ---- a handshake that was used up

none-left : (h : HandshakeValue Table) → h.passed ≡ length h.pattern.messages → psks_of (drop h.passed h.pattern.messages) ≡ 0
none-left h e = ap psks_of (ap (λ (n : ℕ). drop n h.pattern.messages) e ∙ drop-length h.pattern.messages)

pub usable-used-up : (k : NoiseHandshake) (u : IsUsable k) → 0 ≡ finish_code (handshake_from_c u.pattern k) → IsUsable (used_up k)
usable-used-up k u e = record {
  mark = u.mark;
  text = u.text;
  answers = omega arith;
  psks = omega arith;
  pattern = u.pattern;
  named = u.named;
  valid = u.valid;
  whole = (
    [],
    record {
      within = u.whole.1.within;
      psks = sym (none-left (handshake_from_c u.pattern k) (code-done (handshake_from_c u.pattern k) e));
      own_e = u.whole.1.own_e;
      own_s = u.whole.1.own_s;
      remote_e = u.whole.1.remote_e;
      remote_s = u.whole.1.remote_s;
      key = keyed-as (k.cipher.present == 0) _ u.whole.1.key;
      nonce = u.whole.1.nonce;
    },
  );
} where
  -- whether there is a key doesn't depend on its bytes
  zeros : List ℕ
  zeros = replicate 32 0

  keyed-as : (absent : Bool) (b : Bool) → is_some (if absent then None else Some k.cipher.bytes) ≡ b
      → is_some (if absent then None else Some zeros) ≡ b
  keyed-as true b e = e
  keyed-as false b e = e

pub uses-up : (old new : NoiseHandshake) → Finishes old 0 → IsUsable old → new ≡ used_up old → UsesUp old new 0
uses-up old new f u e =
    let usable : IsUsable new = subst IsUsable (sym e) (usable-used-up old u (f.same u)) in
    record {
      code_is = f;
      used = λ _. e;
      usable = λ _. usable;
      once = λ _ again g. g.same usable ∙ finish-ended (handshake_from_c usable.pattern new)
          (ap (λ (k : NoiseHandshake). not (k.ended == 0)) e);
      unchanged = λ low. absurd (omega (arith, low));
    }

-- a handshake is finished with one number
pub finishes-once : (k : NoiseHandshake) (code : ℕ) → Finishes k 0 → Finishes k code → (code ≡ 0 → ⊥) → ⊥
finishes-once k code f g other =
    no-struct (f.unusable.1 (λ u. other (g.same u ∙ sym (f.same u)))) where
      no-struct : ◌≡◌ {A = ℕ} 0 23 → ⊥
      no-struct e = omega (arith, e)
