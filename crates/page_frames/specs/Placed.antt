-- A place, from what it shares with others of the same run.
use Rattle.std.specs.Prelude.{ℕ}
use Rattle.page_frames.specs.declared.spot.Scene.{Scene}
use Rattle.page_frames.specs.Where.{Where}

abbrev pub placed : Scene → ℕ → Where
placed scene node = record { code = scene.code; node = node; env = scene.env; this = scene.this }
