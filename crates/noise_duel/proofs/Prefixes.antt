-- Accepted payloads are the first of the written ones, or the first that isn't was forged.
use Rattle.std.proofs.Common.{◌≡◌, ◌≢◌, ℕ, suc, ◌+◌, List, ◌∷◌, ◌++◌, take, refl, ap, sym, subst, ◌∙◌, arith, inl, inr, ◌⊎◌, slice_get, Some, []}
use Rattle.noise_duel.proofs.Common.{Role, SymmetricState, rekeyed_times, transport_message, rekeys, split_key, TransportMessage, AreTransportMessages, cons-same, same-or}
use Rattle.noise_aead.specs.Sealing.{nonce_of}
use Rattle.noise_aead.specs.Sealed.{sealed-same}
use Rattle.noise_duel.specs.Forgery.{contents, PrefixOrForgedMessage}

pub transport_message-same : (r : SymmetricState) (writer : Role) (interval n : ℕ) (x y : List ℕ) → transport_message r writer interval n x ≡ transport_message r writer interval n y → x ≡ y
transport_message-same r writer interval n x y e = sealed-same (rekeyed_times (rekeys interval n) (split_key r writer)) (nonce_of n) [] x y e

first-of : (w m : TransportMessage) → Some w ≡ Some m → w ≡ m
first-of w m e = cc

module _ (r : SymmetricState) (writer : Role) (interval : ℕ) where
  record ForgedFrom (n : ℕ) (written accepted : List TransportMessage) (i : ℕ) : Type 0 where
    forged : TransportMessage
    came : slice_get accepted i ≡ Some forged
    unwritten : (m : TransportMessage) → slice_get written i ≡ Some m → m.message ≢ forged.message
    message_at : forged.message ≡ transport_message r writer interval (n + i) forged.payload

  abbrev PrefixFrom : ℕ → List TransportMessage → List TransportMessage → Type 0
  PrefixFrom n written accepted =
      ((rest : List (List ℕ)) × (contents written ≡ contents accepted ++ rest))
      ⊎ ((i : ℕ) × (take i (contents accepted) ≡ take i (contents written)) × ForgedFrom n written accepted i)

  prefixes-from : (n : ℕ) (ws as' : List TransportMessage) → AreTransportMessages r writer interval n ws → AreTransportMessages r writer interval n as' → PrefixFrom n ws as'
  prefixes-from n ws [] f g = inl (contents ws, refl)
  prefixes-from n [] (a ∷ more) f g = inr (
    0,
    refl,
    record {
      forged = a;
      came = refl;
      unwritten = λ m e. cc;
      message_at = subst (λ (k : ℕ). a.message ≡ transport_message r writer interval k a.payload) (omega arith) g.0;
    },
  )
  prefixes-from n (w ∷ ws) (a ∷ more) f g = go (same-or w.payload a.payload) (prefixes-from (n + 1) ws more f.1 g.1)
    where
      shift : (i : ℕ) → ForgedFrom (n + 1) ws more i → ForgedFrom n (w ∷ ws) (a ∷ more) (suc i)
      shift i c = record {
        forged = c.forged;
        came = c.came;
        unwritten = c.unwritten;
        message_at = subst (λ (k : ℕ). c.forged.message ≡ transport_message r writer interval k c.forged.payload) (omega arith) c.message_at;
      }

      go : ((w.payload ≡ a.payload) ⊎ (w.payload ≢ a.payload)) → PrefixFrom (n + 1) ws more → PrefixFrom n (w ∷ ws) (a ∷ more)
      go (inr differ) later = inr (
        0,
        refl,
        record {
          forged = a;
          came = refl;
          unwritten = λ m e same. differ
              (transport_message-same r writer interval n w.payload a.payload (sym f.0 ∙ ap (λ (z : TransportMessage). z.message) (first-of w m e) ∙ same ∙ g.0));
          message_at = subst (λ (k : ℕ). a.message ≡ transport_message r writer interval k a.payload) (omega arith) g.0;
        },
      )
      go (inl same) (inl rest) = inl (rest.0, cons-same same rest.1)
      go (inl same) (inr c) = inr (suc c.0, cons-same (sym same) c.1, shift c.0 c.2)

  pub prefix-or-forged : (written accepted : List TransportMessage) → AreTransportMessages r writer interval 0 written → AreTransportMessages r writer interval 0 accepted
      → PrefixOrForgedMessage r writer interval written accepted
  prefix-or-forged written accepted f g = elim (prefixes-from 0 written accepted f g) [
    | inl rest ↦ inl rest
    | inr c ↦ inr (
      c.0,
      c.1,
      record {
        forged = c.2.forged;
        came = c.2.came;
        unwritten = c.2.unwritten;
        message_at = subst (λ (k : ℕ). c.2.forged.message ≡ transport_message r writer interval k c.2.forged.payload) (omega arith) c.2.message_at;
      },
    )
  ]
