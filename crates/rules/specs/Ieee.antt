-- IEEE 1588-2019, clause 11: what a port works out of the messages of an exchange, in the standard's names and in units of 2 ^ -32 ns. Nothing here is taken from the port's rules: a formula is given the fields of the messages as they stand on the wire, and the timestamps of our own events.
use Rattle.std.specs.Prelude.{ℕ, ℤ, pos, ◌+ℤ◌, ◌-ℤ◌}
use Rattle.time.specs.declared.WireTimestamp.{WireTimestamp}
use Rattle.time.specs.Units.{wire, correction, half}

-- the two fields of a message that clause 11 reads: its timestamp, and its correctionField (5.3.2) as a word of 64 bits
pub record WireFields : Type 0 where
  pub timestamp : WireTimestamp
  pub correction_field : ℕ

-- ---- 11.6, asymmetry: both places where a port enters <delayAsymmetry> into a correctionField

-- on ingress of Sync and of Pdelay_Resp it is added, before the field is used: <correctedSyncCorrectionField>, and the same for Pdelay_Resp
abbrev pub corrected_on_ingress : ℤ → WireFields → ℤ
corrected_on_ingress delay_asymmetry m = correction m.correction_field +ℤ delay_asymmetry

-- on egress of Delay_Req and of Pdelay_Req it is subtracted; the responder hands the field of the request back, Delay_Req's in Delay_Resp (11.3), Pdelay_Req's in Pdelay_Resp one-step and in Pdelay_Resp_Follow_Up two-step (11.4).
-- A port that sends its requests with 0 in the field, as ours does, gets it back without that part, and enters it here.
abbrev pub returned_from_egress : ℤ → ℤ → ℤ
returned_from_egress delay_asymmetry c = c -ℤ delay_asymmetry

-- ---- 11.2, offset

-- how a master tells its time: a one-step Sync in its originTimestamp; a two-step Sync by the preciseOriginTimestamp of its Follow_Up, whose correctionField counts too
pub data Syncs : Type 0 where
  one_step : (sync : WireFields) → Syncs
  two_step : (sync follow_up : WireFields) → Syncs

abbrev pub origin_timestamp : Syncs → ℤ
origin_timestamp (one_step sync) = wire sync.timestamp
origin_timestamp (two_step sync follow_up) = wire follow_up.timestamp

abbrev pub sync_message : Syncs → WireFields
sync_message (one_step sync) = sync
sync_message (two_step sync follow_up) = sync

abbrev pub follow_up_correction : Syncs → ℤ
follow_up_correction (one_step sync) = pos 0
follow_up_correction (two_step sync follow_up) = correction follow_up.correction_field

-- <offsetFromMaster> = <syncEventIngressTimestamp> - <originTimestamp or preciseOriginTimestamp> - <meanDelay> - correctionField of Sync - correctionField of Follow_Up
unfoldable pub offset_from_master : ℤ → Syncs → ℤ → ℤ → ℤ
offset_from_master delay_asymmetry m sync_event_ingress_timestamp mean_delay =
    sync_event_ingress_timestamp -ℤ origin_timestamp m -ℤ mean_delay -ℤ corrected_on_ingress delay_asymmetry (sync_message m) -ℤ follow_up_correction m

-- ---- 11.3, delay request-response mechanism: t2 is the Sync's ingress, t3 the Delay_Req's egress

-- <meanPathDelay> = [(t2 - t3) + (receiveTimestamp of Delay_Resp - originTimestamp or preciseOriginTimestamp) - <correctedSyncCorrectionField> - correctionField of Follow_Up - correctionField of Delay_Resp] / 2
unfoldable pub mean_path_delay : ℤ → Syncs → WireFields → ℤ → ℤ → ℤ
mean_path_delay delay_asymmetry m delay_resp t2 t3 =
    half (
    (t2 -ℤ t3) +ℤ (wire delay_resp.timestamp -ℤ origin_timestamp m)
    -ℤ corrected_on_ingress delay_asymmetry (sync_message m)
    -ℤ follow_up_correction m
    -ℤ returned_from_egress delay_asymmetry (correction delay_resp.correction_field))

-- ---- 11.4, peer-to-peer delay mechanism: t1 is the Pdelay_Req's egress, t4 the Pdelay_Resp's ingress

-- one-step, the Pdelay_Resp's own correctionField holds the turnaround; two-step, it lies between requestReceiptTimestamp and responseOriginTimestamp
pub data Pdelays : Type 0 where
  one_step : (pdelay_resp : WireFields) → Pdelays
  two_step : (pdelay_resp pdelay_resp_follow_up : WireFields) → Pdelays

-- <meanLinkDelay> = [(t4 - t1) - correctionField of Pdelay_Resp] / 2, one-step;
-- [(t4 - t1) - (responseOriginTimestamp - requestReceiptTimestamp) - correctionField of Pdelay_Resp - correctionField of Pdelay_Resp_Follow_Up] / 2, two-step
unfoldable pub mean_link_delay : ℤ → Pdelays → ℤ → ℤ → ℤ
mean_link_delay delay_asymmetry (Pdelays.one_step pdelay_resp) t1 t4 =
    half ((t4 -ℤ t1) -ℤ returned_from_egress delay_asymmetry (corrected_on_ingress delay_asymmetry pdelay_resp))
mean_link_delay delay_asymmetry (Pdelays.two_step pdelay_resp pdelay_resp_follow_up) t1 t4 =
    half (
    (t4 -ℤ t1) -ℤ (wire pdelay_resp_follow_up.timestamp -ℤ wire pdelay_resp.timestamp)
    -ℤ corrected_on_ingress delay_asymmetry pdelay_resp
    -ℤ returned_from_egress delay_asymmetry (correction pdelay_resp_follow_up.correction_field))
