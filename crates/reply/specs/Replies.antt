-- Three of the four replies of document 01, point 3; Parameters.antt has the fourth. For each, in this order: the value
-- that a payload p holds, the reply, and the value with every field 0, which is returned beside a refusal.
--   enable_config_of p, enable_config_reply, no_enable_config
--   firmware_of p, firmware_reply, no_firmware
--   mac_of p, mac_reply, no_mac
use Rattle.std.specs.Prelude.{List, ℕ, take, drop, replicate}
use Rattle.wire.specs.Number.{little}
use Rattle.reply.specs.Reply.{Reply, sized}
use Rattle.reply.specs.declared.EnableConfig.{EnableConfig}
use Rattle.reply.specs.declared.FirmwareVersion.{FirmwareVersion}
use Rattle.reply.specs.declared.Mac.{Mac}

-- "`enable_config` is version and buffer size, two bytes each"
abbrev pub enable_config_of : List ℕ → EnableConfig
enable_config_of p = record { protocol_version = little (take 2 p); buffer_size = little (take 2 (drop 2 p)) }

abbrev pub enable_config_reply : Reply EnableConfig
enable_config_reply = sized 0x00FF 4 enable_config_of

abbrev pub no_enable_config : EnableConfig
no_enable_config = record { protocol_version = 0; buffer_size = 0 }

-- "`firmware_version` is type and major, two each, and minor, four"
abbrev pub firmware_of : List ℕ → FirmwareVersion
firmware_of p = record {
  firmware_type = little (take 2 p);
  major = little (take 2 (drop 2 p));
  minor = little (take 4 (drop 4 p));
}

abbrev pub firmware_reply : Reply FirmwareVersion
firmware_reply = sized 0x00A0 8 firmware_of

abbrev pub no_firmware : FirmwareVersion
no_firmware = record { firmware_type = 0; major = 0; minor = 0 }

-- "`mac` is six bytes"
abbrev pub mac_of : List ℕ → Mac
mac_of p = record { 0 = take 6 p }

abbrev pub mac_reply : Reply Mac
mac_reply = sized 0x00A5 6 mac_of

abbrev pub no_mac : Mac
no_mac = record { 0 = replicate 6 0 }
