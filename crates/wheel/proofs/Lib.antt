mod Thirds
