pub mod Cipher
pub mod Symmetric
pub mod History
pub mod Ciphertexts
pub mod Outcomes
pub mod Standing
pub use Rattle.noise_aead.specs.Sealing
pub use Rattle.noise_kdf.specs.Hkdf
