-- Windows over the nonces of datagrams (Noise 11.4).
use Rattle.std.specs.Prelude.{ℕ}
use Rattle.noise_events.specs.declared.window.Window.{Window}
use Rattle.noise_events.specs.declared.window.Window.TheVariants.{W64, W256, W1024}

-- how many nonces a window has
abbrev pub width_of : Window → ℕ
width_of W64 = 64
width_of W256 = 256
width_of W1024 = 1024
