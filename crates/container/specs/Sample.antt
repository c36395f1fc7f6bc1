-- Three containers of one record and their octets, by hand: the QoS stands in the first, not in the second, which a tariff change comes
-- before, and again in the third, which a QoS change comes before (02, W1).
use Rattle.std.specs.Prelude.{List, [], ◌∷◌, ◌++◌, ℕ}
use Rattle.container.specs.declared.Container.{Container}

unfoldable pub tariff : Container
tariff = record {
  qos = record { reliability = 1; delay = 3; precedence = 2; peak = 4; mean = 0 };
  uplink = 400;
  downlink = 599;
  condition = 1;
  time = record { seconds = 6; zone = 720 };
}

unfoldable pub change : Container
change = record {
  qos = record { reliability = 1; delay = 3; precedence = 2; peak = 4; mean = 0 };
  uplink = 1;
  downlink = 0;
  condition = 0;
  time = record { seconds = 7; zone = 720 };
}

unfoldable pub closing : Container
closing = record {
  qos = record { reliability = 1; delay = 3; precedence = 2; peak = 4; mean = 18 };
  uplink = 0;
  downlink = 128;
  condition = 2;
  time = record { seconds = 8; zone = 720 };
}

-- the two profiles
unfoldable pub profile : ℕ → List ℕ
profile mean = 0xA2 ∷ 0x0F ∷ 0x80 ∷ 0x01 ∷ 0x01 ∷ 0x81 ∷ 0x01 ∷ 0x03 ∷ 0x82 ∷ 0x01 ∷ 0x02 ∷ 0x83 ∷ 0x01 ∷ 0x04 ∷ 0x84 ∷ 0x01 ∷ mean ∷ []

-- 400, 599, condition 1, 2000-01-01 00:00:06; 1, 0, condition 0, 00:00:07; 0, 128, condition 2, 00:00:08
unfoldable pub counts₁ : List ℕ
counts₁ =
    0x83 ∷ 0x02 ∷ 0x01 ∷ 0x90 ∷ 0x84 ∷ 0x02 ∷ 0x02 ∷ 0x57 ∷ 0x85 ∷ 0x01 ∷ 0x01 ∷ 0x86 ∷ 0x09 ∷ 0x00 ∷ 0x01 ∷ 0x01 ∷ 0x00 ∷ 0x00 ∷ 0x06 ∷ 0x2B ∷ 0x00 ∷ 0x00 ∷ []

unfoldable pub counts₂ : List ℕ
counts₂ = 0x83 ∷ 0x01 ∷ 0x01 ∷ 0x84 ∷ 0x01 ∷ 0x00 ∷ 0x85 ∷ 0x01 ∷ 0x00 ∷ 0x86 ∷ 0x09 ∷ 0x00 ∷ 0x01 ∷ 0x01 ∷ 0x00 ∷ 0x00 ∷ 0x07 ∷ 0x2B ∷ 0x00 ∷ 0x00 ∷ []

unfoldable pub counts₃ : List ℕ
counts₃ = 0x83 ∷ 0x01 ∷ 0x00 ∷ 0x84 ∷ 0x02 ∷ 0x00 ∷ 0x80 ∷ 0x85 ∷ 0x01 ∷ 0x02 ∷ 0x86 ∷ 0x09 ∷ 0x00 ∷ 0x01 ∷ 0x01 ∷ 0x00 ∷ 0x00 ∷ 0x08 ∷ 0x2B ∷ 0x00 ∷ 0x00 ∷ []

-- the list as it is written
unfoldable pub printed : List ℕ
printed = (0x30 ∷ 0x27 ∷ profile 0x00 ++ counts₁) ++ (0x30 ∷ 0x14 ∷ counts₂) ++ (0x30 ∷ 0x26 ∷ profile 0x12 ++ counts₃)

-- with a profile that nobody asked for in the second, and without one in the third
unfoldable pub superfluous : List ℕ
superfluous = (0x30 ∷ 0x27 ∷ profile 0x00 ++ counts₁) ++ (0x30 ∷ 0x25 ∷ profile 0x00 ++ counts₂) ++ (0x30 ∷ 0x26 ∷ profile 0x12 ++ counts₃)

unfoldable pub missing : List ℕ
missing = (0x30 ∷ 0x27 ∷ profile 0x00 ++ counts₁) ++ (0x30 ∷ 0x14 ∷ counts₂) ++ (0x30 ∷ 0x15 ∷ counts₃)
